mod Migrations
mod Replacing
