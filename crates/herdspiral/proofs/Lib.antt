-- What reads into a buffer come to.
mod Readings
