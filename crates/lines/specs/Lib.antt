pub mod Grammar
pub mod Pieces
pub mod HexLaws
pub mod NumberLaws
pub mod CutLaws
pub mod ParseLaws
pub mod OneLaws
pub mod Coincide
