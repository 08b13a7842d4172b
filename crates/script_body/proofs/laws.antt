-- Laws on this crate's definitions, made for other crates too.
pub mod ScriptBodies
pub mod OneWay
