-- What every service on a socket begins with. Assumes nothing.
pub mod Beginning
pub use Beginning.{seat_named, in_seats, in_clients, positive, by_length, by_handle, by_socket, by_card, Service, refused_ahead, refused_own, done_own}
