-- What the contracts of `client_services` cite. Assumes nothing.
pub mod Clients
pub use Clients.{Asks, AsksFor, NextIs, RoomIs, GrantAt, GrantHeld, MaskHeldIn, HoldsSome}
