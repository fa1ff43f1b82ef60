pub mod RouteExample
pub mod Routing
