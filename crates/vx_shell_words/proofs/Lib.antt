mod NumberWords
mod OptionWords
mod RangeWords
