pub mod Directives
pub mod Known
pub mod Reports
pub mod Traces
pub mod Verdicts
