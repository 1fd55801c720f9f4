mod HexFieldLemmas
pub mod FieldLemmas
