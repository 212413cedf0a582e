-- Cases of K2 (document 02), beside N1 to N12: a card that answers where nothing is managed, the order by reserve, and a saved table. Assumes
-- nothing.
use Rattle.std.specs.Prelude.{List, [], ◌∷◌, true, ℕ}
use Rattle.facts.specs.declared.Code.TheVariants.{BadBase, InUse}
use Rattle.facts.specs.Table.{Facts}
use Rattle.facts.specs.WellFormed.{WellFormed}
use Rattle.facts.specs.Resources.{AdjustResourceInfo, with_ranges}
use Rattle.facts.specs.Io.{RequestIo}
use Rattle.facts_cases.specs.Cases.{Exactly, done, refused, ports, range, ready, granting_io}

-- "2F8, which belongs to our main board and was never managed": all ports but these eight are; and all ports, once they are added
abbrev pub boards_ports : Facts
boards_ports = with_ranges ready (range 0 0x2F8 ∷ range 0x300 0xFD00 ∷ [])

abbrev pub all_added : Facts
all_added = with_ranges ready (range 0 0x2F8 ∷ range 0x2F8 8 ∷ range 0x300 0xFD00 ∷ [])

-- two ranges that a card of 15 lines doesn't tell apart; the lower one is reserved
abbrev pub alike : Facts
alike = with_ranges ready (record { base = 0x300; count = 16; reserved = true } ∷ range 0x8300 16 ∷ [])

-- RequestIO's packet, not shared: the socket, the two bytes of BasePort1, NumPorts1, IOAddrLines
abbrev pub lines_packet : ℕ → ℕ → ℕ → ℕ → ℕ → List ℕ
lines_packet s low high count lines = s ∷ 0x00 ∷ low ∷ high ∷ count ∷ 0x00 ∷ 0x00 ∷ 0x00 ∷ 0x00 ∷ 0x00 ∷ lines ∷ []

-- AdjustResourceInfo's short packet: Remove of 8 ports at the base 2F8
abbrev pub remove_packet : List ℕ
remove_packet = 0x00 ∷ 0x01 ∷ 0xF8 ∷ 0x02 ∷ 0x08 ∷ 0x00 ∷ 0x10 ∷ []

pub record AnsweringCases : Type 0 where
  -- "A ten-line card was given 6F8 and answered at 2F8": no longer while 2F8 is not managed
  pub unmanaged_refused : Exactly (RequestIo boards_ports 1 (lines_packet 1 0xF8 0x06 8 10)) (refused BadBase (lines_packet 1 0xF8 0x06 8 10) boards_ports)
  -- but once it is
  pub managed_granted : Exactly (RequestIo all_added 1 (lines_packet 1 0xF8 0x06 8 10))
      (done 1 (lines_packet 1 0xF8 0x06 8 10) (granting_io 1 (ports 0x6F8 8 10) all_added))
  -- a card of sixteen lines answers at 6F8 alone
  pub all_lines_granted : Exactly (RequestIo boards_ports 1 (lines_packet 1 0xF8 0x06 8 16))
      (done 1 (lines_packet 1 0xF8 0x06 8 16) (granting_io 1 (ports 0x6F8 8 16) boards_ports))
  -- "not a candidate for base 0": at 8 a card of four lines would answer at 2F8, so it is given 10, the next multiple
  pub multiple_passed : Exactly (RequestIo boards_ports 1 (lines_packet 1 0x00 0x00 8 4))
      (done 1 (lines_packet 1 0x10 0x00 8 4) (granting_io 1 (ports 0x10 8 4) boards_ports))
  -- "not a candidate for base 0": at 300 or 8300 a card of fourteen lines would answer at 4300 and C300, too, so no candidate is left
  pub none_left : Exactly (RequestIo alike 1 (lines_packet 1 0x00 0x00 16 14)) (refused InUse (lines_packet 1 0x00 0x00 16 14) alike)
  -- a grant of 6F8 keeps 2F8 managed: "Remove is IN_USE if a live grant .. is repeated at any port of the range"
  pub repeated_kept : Exactly (AdjustResourceInfo (granting_io 1 (ports 0x6F8 8 10) all_added) 1 remove_packet)
      (refused InUse remove_packet (granting_io 1 (ports 0x6F8 8 10) all_added))
  -- "The order by reserve looks at the range's own ports alone": 8300 comes before 300, although the card answers at 300, too
  pub own_ports_ordered : Exactly (RequestIo alike 1 (lines_packet 1 0x00 0x00 16 15))
      (done 1 (lines_packet 1 0x00 0x83 16 15) (granting_io 1 (ports 0x8300 16 15) alike))
  -- "A saved table with a grant that breaks this rule is no longer well formed": 6F8 at ten lines, where 2F8 isn't managed
  pub unmanaged_unformed : WellFormed (granting_io 1 (ports 0x6F8 8 10) boards_ports) → ⊥
  -- with 2F8 managed, the same grant is
  pub managed_formed : WellFormed (granting_io 1 (ports 0x6F8 8 10) all_added)
