pub mod Forms
pub mod Sentences
pub mod Machine
pub mod Said
