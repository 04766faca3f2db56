mod Taking
mod Adding
mod Known
