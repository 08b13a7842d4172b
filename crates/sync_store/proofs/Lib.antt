pub mod ThreadLists
pub mod ReleaseLists
pub mod Agreement
pub mod AfterStep
