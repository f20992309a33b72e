pub use Rattle.tk_model.specs.Hashes
pub mod Stripes
