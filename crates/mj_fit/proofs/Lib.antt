mod Holding
mod Having
mod Failing
mod Serving
