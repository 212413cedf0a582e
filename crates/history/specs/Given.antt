-- What is given at each public entry, beside the table. Assumes nothing.
use Rattle.std.specs.Prelude.{List, ℕ}

pub data Given : Type 0 where
  -- cs_fresh: the number of sockets
  make_fresh : (sockets : ℕ) → Given
  -- cs_call: the service's number, the handle and the packet
  call : (number handle : ℕ) (packet : List ℕ) → Given
  -- cs_card_in and cs_card_out
  card_in card_out : (socket : ℕ) → Given
  -- cs_boot: the list's bytes
  boot : (records : List ℕ) → Given
  -- cs_sharers
  sharers : (level : ℕ) → Given
