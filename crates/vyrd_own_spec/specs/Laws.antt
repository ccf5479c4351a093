-- Laws that impls cite.
pub mod Parts
