pub mod AnyList
