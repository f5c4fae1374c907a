mod Ending
mod Holding
mod Making
mod Noting
