mod Ending
mod Growing
mod Printing
mod Seen
mod Showing
mod Taking
mod Turning
