pub mod StmtMoves
pub mod ScriptLaw
pub mod StmLaw
pub mod ParsedLaw
