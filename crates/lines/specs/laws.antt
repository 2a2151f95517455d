-- What the layers above may cite, so that nobody opens a definition.
-- texts put one after another, what stands where, and lengths
pub mod Put
-- calls one after another
pub mod Promise
