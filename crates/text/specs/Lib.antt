-- The definitions of `text`: what its contracts cite beside those of RFC 3629.
pub mod Units
