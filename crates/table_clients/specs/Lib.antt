-- What the contracts of `table_clients` cite. Assumes nothing.
pub mod Clients
pub use Clients.{OneType, NoClient, OneClient, PlaceSound, PlaceSoundIn, PlacesSound, Counted, PlacesEnd, ClientsListed}
