mod Choosing
mod Spelling
