-- The laws of reading: what is read is spelled so, and what is spelled is read.
--     Spelled   what is read is a trace, and the bytes are how it is written
--     Found     numbers, texts, subscripts and names are found in a line as they are spelled
--     Members   the same of lists and timeouts
--     Asked     the same of asks
--     Told      the same of replies
--     Within    no line holds byte 10
--     Whole     the bytes of a trace are read as this trace
--     Fits      what is found is within the sizes of its values
--     Refused   what is refused isn't spelled, or can't stand there
pub mod Spelled
pub mod Found
pub mod Members
pub mod Asked
pub mod Told
pub mod Within
pub mod Whole
pub mod Fits
pub mod Refused
