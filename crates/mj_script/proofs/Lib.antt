mod Adding
mod Loading
mod Principals
