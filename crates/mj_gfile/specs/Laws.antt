-- The laws of what is read of the fields of a listing, and of listings, which crates above cite: what is spelled is read as what it
-- spells, and nothing else is read.
--     Texts      texts in listing quotes
--     Names      subscripts, lists of them, and names
--     Listings   lines, and listings as a whole
--     Refused    what is refused isn't spelled, or is out of place
pub mod Texts
pub mod Names
pub mod Listings
pub mod Refused
