-- The definitions that the contracts cite, in reading order; then what they say of a number's form and its round trip.
pub mod Numbers
pub mod FormExactly
pub mod NumberTrip
