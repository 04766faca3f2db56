mod TextLemmas
mod WriteLemmas
mod FileLemmas
mod FolderLemmas
