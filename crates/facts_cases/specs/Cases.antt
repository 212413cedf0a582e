-- The cases by number of document 01, N1 to N12, as one table. Assumes nothing.
use Rattle.std.specs.Prelude.{◌≡◌, List, [], ◌∷◌, true, false, ℕ}
use Rattle.std.proofs.Math.Option.{some}
use Rattle.facts.specs.declared.Code.{Code}
use Rattle.facts.specs.declared.Code.TheVariants.{Success, BadBase, BadIrq}
use Rattle.facts.specs.declared.Manner.{Manner}
use Rattle.facts.specs.declared.Manner.TheVariants.{Exclusive, DynamicLevel, DynamicPulse}
use Rattle.facts.specs.Table.{Facts, Range, fresh}
use Rattle.facts.specs.declared.Ports.{Ports}
use Rattle.facts.specs.Ports.{Meet}
use Rattle.facts.specs.Checks.{Outcome}
use Rattle.facts.specs.Clients.{Register, Deregister, registered, with_clients}
use Rattle.facts.specs.Sockets.{with_card}
use Rattle.facts.specs.Resources.{AdjustResourceInfo, with_ranges, level_added, reserve_bit}
use Rattle.facts.specs.Irq.{RequestIrq, Sharers, with_irq}
use Rattle.facts.specs.Io.{RequestIo, with_io}

-- the rule permits the outcome, and no other
pub record Exactly {O : Type 0} (R : O → Type 0) (o : O) : Type 0 where
  pub permitted : R o
  pub only : (o' : O) → R o' → o' ≡ o

-- SUCCESS, with the handle answered, the packet and the facts that it leaves
abbrev pub done : ℕ → List ℕ → Facts → Outcome
done h p F = record { code = Success; handle = h; packet = p; facts = F }

-- a refusal: it answers 0, and leaves the packet and the facts as they were
abbrev pub refused : Code → List ℕ → Facts → Outcome
refused k p F = record { code = k; handle = 0; packet = p; facts = F }

-- ports by their base, count and decoded lines
abbrev pub ports : ℕ → ℕ → ℕ → Ports
ports base count lines = record { base = base; count = count; lines = lines }

-- a managed range that isn't reserved
abbrev pub range : ℕ → ℕ → Range
range base count = record { base = base; count = count; reserved = false }

-- just one range is managed
abbrev pub managing : Range → Facts → Facts
managing r F = with_ranges F (r ∷ [])

-- sockets 0, 1 and 2 with cards in, and one live client: handle 1, attributes 4, event mask 0
abbrev pub ready : Facts
ready = registered (with_card (with_card (with_card (fresh 3) 0 true) 1 true) 2 true) 4 0

-- "levels 3 and 5 managed, 5 reserved"
abbrev pub two_levels : Facts
two_levels = level_added (level_added ready 3 0) 5 reserve_bit

-- the socket s then has an IRQ grant of the client 1
abbrev pub granting_irq : ℕ → ℕ → Manner → Facts → Facts
granting_irq s l m F = with_irq F s (some (record { client = 1; level = l; manner = m }))

-- the socket s then has an I/O grant of the client 1, not shared
abbrev pub granting_io : ℕ → Ports → Facts → Facts
granting_io s a F = with_io F s (some (record { client = 1; ports = a; shared = false }))

-- N6's table after its first grant, and after its second
abbrev pub three_held : Facts
three_held = granting_irq 0 3 Exclusive two_levels

abbrev pub both_held : Facts
both_held = granting_irq 1 5 Exclusive three_held

-- the same for N7
abbrev pub one_sharer : Facts
one_sharer = granting_irq 0 3 DynamicLevel two_levels

abbrev pub two_sharers : Facts
two_sharers = granting_irq 1 3 DynamicLevel one_sharer

-- "300, 16 managed, 300 to 307 held", by the socket 0
abbrev pub half_held : Facts
half_held = granting_io 0 (ports 0x300 8 16) (managing (range 0x300 16) ready)

-- "302 to 30C managed"
abbrev pub eleven_managed : Facts
eleven_managed = managing (range 0x302 11) ready

-- "300, 16 managed and unheld"
abbrev pub unheld_range : Facts
unheld_range = managing (range 0x300 16) (fresh 2)

-- a fresh table after "register", and after "register, deregister"
abbrev pub one_client : Facts
one_client = registered (fresh 2) 4 0

abbrev pub no_client : Facts
no_client = with_clients one_client []

-- RequestIRQ's packet: the socket, the attributes' low byte, AssignedIRQ, IRQInfo1 and IRQInfo2's low byte
abbrev pub irq_packet : ℕ → ℕ → ℕ → ℕ → ℕ → List ℕ
irq_packet s attributes assigned info1 info2 = s ∷ 0x00 ∷ attributes ∷ 0x00 ∷ assigned ∷ info1 ∷ info2 ∷ 0x00 ∷ []

-- a card with the Level and Share bits. N6: "exclusive, mask 0028H", IRQInfo1 B0; N7: "only 3 named" by the low four bits, IRQInfo1 A3
abbrev pub exclusive : ℕ → ℕ → List ℕ
exclusive s assigned = irq_packet s 0x00 assigned 0xB0 0x28

abbrev pub time_multiplexed : ℕ → ℕ → List ℕ
time_multiplexed s assigned = irq_packet s 0x01 assigned 0xA3 0x00

abbrev pub dynamic : ℕ → ℕ → List ℕ
dynamic s assigned = irq_packet s 0x02 assigned 0xA3 0x00

-- RequestIO's packet at 16 lines, not shared: the socket, the two bytes of BasePort1, NumPorts1
abbrev pub io_packet : ℕ → ℕ → ℕ → ℕ → List ℕ
io_packet s low high count = s ∷ 0x00 ∷ low ∷ high ∷ count ∷ 0x00 ∷ 0x00 ∷ 0x00 ∷ 0x00 ∷ 0x00 ∷ 0x10 ∷ []

-- RegisterClient's packet: attributes 4, event mask 0
abbrev pub client_packet : List ℕ
client_packet =
    0x04 ∷ 0x00 ∷ 0x00 ∷ 0x00 ∷ 0x00 ∷ 0x00 ∷ 0x00 ∷ 0x00 ∷ 0x00 ∷ 0x00 ∷ 0x00 ∷ 0x00 ∷ 0x00 ∷ 0x00 ∷ []

-- AdjustResourceInfo's short packets: Add of 8 ports, at the base FFF8 or FFF9; First
abbrev pub add_packet : ℕ → List ℕ
add_packet low = 0x01 ∷ 0x01 ∷ low ∷ 0xFF ∷ 0x08 ∷ 0x00 ∷ 0x10 ∷ []

abbrev pub first_packet : List ℕ
first_packet = 0x02 ∷ 0x01 ∷ 0x00 ∷ 0x00 ∷ 0x00 ∷ 0x00 ∷ 0x00 ∷ []

pub record Cases : Type 0 where
  -- "N1 2F8, 8 ports, 10 lines and 6F8, 8, 16 lines meet."
  pub n1 : Meet (ports 0x2F8 8 10) (ports 0x6F8 8 16)
  -- "N2 the same with 16 lines each don't."
  pub n2 : Meet (ports 0x2F8 8 16) (ports 0x6F8 8 16) → ⊥
  -- "N3 3E8, 8 and 3F0, 8 at 16 lines don't."
  pub n3 : Meet (ports 0x3E8 8 16) (ports 0x3F0 8 16) → ⊥
  -- "N4 100, 1, 8 lines and 200, 1, 16 lines meet."
  pub n4 : Meet (ports 0x100 1 8) (ports 0x200 1 16)
  -- "N5 Add FFF8, 8 passes; FFF9, 8 is BAD_BASE."
  pub n5 : Exactly (AdjustResourceInfo (fresh 2) 1 (add_packet 0xF8)) (done 1 (add_packet 0xF8) (managing (range 0xFFF8 8) (fresh 2)))
      × Exactly (AdjustResourceInfo (fresh 2) 1 (add_packet 0xF9)) (refused BadBase (add_packet 0xF9) (fresh 2))
  -- "N6 levels 3 and 5 managed, 5 reserved; exclusive, mask 0028H from three sockets: 3, 5, BAD_IRQ."
  pub n6 : Exactly (RequestIrq two_levels 1 (exclusive 0 0)) (done 1 (exclusive 0 3) three_held)
      × Exactly (RequestIrq three_held 1 (exclusive 1 0)) (done 1 (exclusive 1 5) both_held)
      × Exactly (RequestIrq both_held 1 (exclusive 2 0)) (refused BadIrq (exclusive 2 0) both_held)
  -- "N7 only 3 named: dynamic level, then from another socket time-multiplexed BAD_IRQ, then from it dynamic level: two sharers."
  pub n7 : Exactly (RequestIrq two_levels 1 (dynamic 0 0)) (done 1 (dynamic 0 3) one_sharer)
      × Exactly (RequestIrq one_sharer 1 (time_multiplexed 1 0)) (refused BadIrq (time_multiplexed 1 0) one_sharer)
      × Exactly (RequestIrq one_sharer 1 (dynamic 1 0)) (done 1 (dynamic 1 3) two_sharers)
      × Exactly (Sharers two_sharers 3) (record { code = Success; count = 2 })
  -- "N8 300, 16 managed, 300 to 307 held: base 0, 8 ports, all at 16 lines, gives 308."
  pub n8 : Exactly (RequestIo half_held 1 (io_packet 1 0x00 0x00 8)) (done 1 (io_packet 1 0x08 0x03 8) (granting_io 1 (ports 0x308 8 16) half_held))
  -- "N9 302 to 30C managed: base 0, 5 ports, 16 lines gives 308."
  pub n9 : Exactly (RequestIo eleven_managed 1 (io_packet 1 0x00 0x00 5))
      (done 1 (io_packet 1 0x08 0x03 5) (granting_io 1 (ports 0x308 5 16) eleven_managed))
  -- "N10 register, deregister, register: handle 2."
  pub n10 : Exactly (Register (fresh 2) 0 client_packet) (done 1 client_packet one_client)
      × Exactly (Deregister one_client 1 []) (done 1 [] no_client)
      × Exactly (Register no_client 0 client_packet) (done 2 client_packet (registered no_client 4 0))
  -- "N11 N6's table before its grants, socket 0 with a card, packet 00 00 02 00 00 B0 28 00 becomes 00 00 02 00 03 B0 28 00; with D0 for B0,
  -- 00 00 02 01 03 D0 28 00."
  pub n11 : Exactly (RequestIrq two_levels 1 (0x00 ∷ 0x00 ∷ 0x02 ∷ 0x00 ∷ 0x00 ∷ 0xB0 ∷ 0x28 ∷ 0x00 ∷ []))
      (done 1 (0x00 ∷ 0x00 ∷ 0x02 ∷ 0x00 ∷ 0x03 ∷ 0xB0 ∷ 0x28 ∷ 0x00 ∷ []) (granting_irq 0 3 DynamicLevel two_levels))
      × Exactly (RequestIrq two_levels 1 (0x00 ∷ 0x00 ∷ 0x02 ∷ 0x00 ∷ 0x00 ∷ 0xD0 ∷ 0x28 ∷ 0x00 ∷ []))
      (done 1 (0x00 ∷ 0x00 ∷ 0x02 ∷ 0x01 ∷ 0x03 ∷ 0xD0 ∷ 0x28 ∷ 0x00 ∷ []) (granting_irq 0 3 DynamicPulse two_levels))
  -- "N12 300, 16 managed and unheld, short First: 02 01 00 03 10 00 10, handle 0."
  pub n12 : Exactly (AdjustResourceInfo unheld_range 1 first_packet) (done 0 (0x02 ∷ 0x01 ∷ 0x00 ∷ 0x03 ∷ 0x10 ∷ 0x00 ∷ 0x10 ∷ []) unheld_range)
