pub mod NamingLaws
pub mod RouteNames
pub mod ChildNames
