pub mod Script
pub mod ScriptState
pub mod Plays
pub mod ScriptMoves
pub mod ScriptLaws
pub mod Worked
