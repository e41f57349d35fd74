mod EntryLists
mod EntryReads
mod Limits
mod ResultReads
mod Written
