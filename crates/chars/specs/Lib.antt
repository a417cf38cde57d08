-- The definitions of `chars`: what its contracts cite beside those of RFC 3629.
pub mod Places
