-- What a table says. Assumes nothing.
use Rattle.std.specs.Prelude.{◌≡◌, List, [], Bool, false, ℕ, ◌^◌}
use Rattle.std.proofs.Math.Option.{Option, none, some}
use Rattle.facts.specs.declared.Manner.{Manner}
use Rattle.facts.specs.declared.Ports.{Ports}

-- the limits
abbrev pub most_sockets : ℕ
most_sockets = 8

abbrev pub most_seats : ℕ
most_seats = 8

abbrev pub most_clients : ℕ
most_clients = 16

abbrev pub most_issued : ℕ
most_issued = 65535

abbrev pub all_levels : ℕ
all_levels = 16

abbrev pub most_ranges : ℕ
most_ranges = 32

-- one past FFFF
abbrev pub all_ports : ℕ
all_ports = 65536

abbrev pub most_lines : ℕ
most_lines = 16

-- event masks have bits 0 to 11
abbrev pub all_events : ℕ
all_events = 2 ^ 12

-- the port count of a request is one byte
abbrev pub most_asked : ℕ
most_asked = 255

-- A seat is where a grant or a mask stands. Each socket has one, which has its number; with functions, each function of a socket will have one.
abbrev pub Seat : Type 0
Seat = ℕ

-- a socket's seat, and a seat's socket
abbrev pub seat_of : ℕ → Seat
seat_of s = s

abbrev pub socket_at : Seat → ℕ
socket_at s = s

-- live clients (handle, attributes, event mask); at most one mask for each client and seat
pub record Client : Type 0 where
  pub handle : ℕ
  pub attributes : ℕ
  pub events : ℕ
  pub mask : Seat → Option ℕ

-- IRQ levels, each managed or not and reserved or not
pub record Level : Type 0 where
  pub managed : Bool
  pub reserved : Bool

-- managed I/O ranges with their reserve mark
pub record Range : Type 0 where
  pub base : ℕ
  pub count : ℕ
  pub reserved : Bool

-- a range of ports that is held: by this client, at these lines, shared or not
pub record HeldPorts : Type 0 where
  pub client : ℕ
  pub ports : Ports
  pub shared : Bool

-- an I/O grant (client, base, count, lines, shared or not) holds one range of ports
abbrev pub IoGrant : Type 0
IoGrant = HeldPorts

-- an IRQ grant (client, level, manner)
pub record IrqGrant : Type 0 where
  pub client : ℕ
  pub level : ℕ
  pub manner : Manner

-- The facts. Clients are listed in order of handle and ranges in order of base, so that a set is listed in one way; cards stand by socket, levels by number,
-- grants by seat.
pub record Facts : Type 0 where
  pub sockets : ℕ
  pub card : ℕ → Bool
  pub issued : ℕ
  pub clients : List Client
  pub level : ℕ → Level
  pub ranges : List Range
  pub io : Seat → Option IoGrant
  pub irq : Seat → Option IrqGrant

-- this range of ports is held at this seat, by its client, at its lines, shared or not: a grant stands there, and this is the range that it holds
abbrev pub Held : Facts → Seat → HeldPorts → Type 0
Held F s x = F.io s ≡ some x

-- "Nothing is managed, no card in, none issued."
abbrev pub fresh : ℕ → Facts
fresh n =
    record {
      sockets = n;
      card = λ s. false;
      issued = 0;
      clients = [];
      level = λ l. record { managed = false; reserved = false };
      ranges = [];
      io = λ s. none;
      irq = λ s. none;
    }
