pub mod Tables
pub mod Entries
pub mod Formals
pub mod Leaves
pub mod SpotLeaves
pub mod Good
pub mod Facts
pub mod SpotFacts
pub mod Ends
pub mod Complete
pub mod CompleteLines
pub mod Commas
mod Shapes
mod Restartables
pub mod Trees
pub mod CommandTrees
pub mod Formed
pub mod FormedCalls
pub mod Once
pub mod OnceCommands
pub mod Spelled
pub mod Said
pub mod Outcomes
pub mod Examples
mod Rows
