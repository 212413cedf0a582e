-- What the bytes of an accepted table say of its facts. Assumes nothing.
use Rattle.facts.proofs.Words.{◌≡◌, refl, ap, sym, ◌∙◌, subst, List, false, none, some, some-injective, ℕ, ◌<◌, ◌+◌, arith, length, get_elem?}
use Rattle.facts.proofs.Words.{WellFormed}
use Rattle.facts.specs.{Facts, Client, Range, ◌∈◌, Managed, byte, Live, all_levels, most_clients, most_seats, most_sockets}
use Rattle.layout.specs.{sockets_in, clients_in, ranges_in, issued_in, handle_in, client_in, io_in, up_to, marked, level_in, range_in, facts_in, Accepted}
use Rattle.layout.specs.{LiveIn, ManagedIn, IoUsed, range_base, range_count, head_sockets, head_clients, head_ranges, cards_at, table_size}
use Rattle.layout.specs.Sound.{Sound}
use Rattle.layout.proofs.Lists.{below_in, at_in, at-up_to, in-up_to, rising_before}
use Rattle.layout.proofs.RoundTrip.{shown_back}
use Rattle.layout.proofs.Said.{live_of, live_in, managed_of, managed_in_lem, io_here_lem, no_io_here}
use Rattle.layout.proofs.Shows.{Shows, image_shows}
use Rattle.layout.proofs.Sounds.{sound}

module _ (b : List ℕ) (a : Accepted b) where
  pub shows_in : Shows most_clients table_size a.facts b
  shows_in = subst (Shows most_clients table_size a.facts) a.is (image_shows most_clients table_size a.facts (omega arith))

  -- what is read off the bytes is what they say
  pub facts_in_lem : a.facts ≡ facts_in b
  facts_in_lem = sym (shown_back a.facts a.formed a.formed.clients_most (omega arith) shows_in)

  pub sound_in : Sound b
  sound_in =
      let formed = subst WellFormed facts_in_lem a.formed in
      sound (omega arith) formed.clients_most formed (subst (λ (F : Facts). Shows most_clients table_size F b) facts_in_lem shows_in)

  -- the head
  pub size_in : length b ≡ table_size
  size_in = shows_in.size

  pub sockets_in_lem : sockets_in b ≡ a.facts.sockets
  sockets_in_lem = shows_in.heads head_sockets (omega arith)

  pub clients_in_lem : clients_in b ≡ length a.facts.clients
  clients_in_lem = shows_in.heads head_clients (omega arith)

  pub ranges_in_lem : ranges_in b ≡ length a.facts.ranges
  ranges_in_lem = shows_in.heads head_ranges (omega arith)

  pub issued_in_lem : issued_in b ≡ a.facts.issued
  issued_in_lem = omega (arith, shows_in.heads 4 (omega arith), shows_in.heads 5 (omega arith))

  -- the ith client
  pub client_at : (i : ℕ) → i < clients_in b → get_elem? a.facts.clients i ≡ some (client_in b i)
  unfolding facts_in
  client_at i l = ap (λ (F : Facts). get_elem? F.clients i) facts_in_lem ∙ at-up_to (clients_in b) (client_in b) i l

  pub client_of : (i : ℕ) → i < clients_in b → (c : Client) × (get_elem? a.facts.clients i ≡ some c)
  client_of i l = (client_in b i, client_at i l)

  pub handle_of_lem : (i : ℕ) (c : Client) → get_elem? a.facts.clients i ≡ some c → i < clients_in b → handle_in b i ≡ c.handle
  unfolding client_in
  handle_of_lem i c e l = ap (λ (x : Client). x.handle) (some-injective (client_in b i) c (sym (client_at i l) ∙ e))

  -- a live client is listed
  pub listed_live : (h : ℕ) → Live a.facts h → LiveIn b h
  listed_live h l = live_in b h (subst (λ (F : Facts). Live F h) facts_in_lem l)

  pub live_listed : (i h : ℕ) → i < clients_in b → handle_in b i ≡ h → Live a.facts h
  live_listed i h l e = subst (λ (F : Facts). Live F h) (sym facts_in_lem) (live_of b h (i, l, e))

  -- handles differ: a client with the handle of the ith is the ith
  pub same_client : (i j : ℕ) (x y : Client) → get_elem? a.facts.clients i ≡ some x → get_elem? a.facts.clients j ≡ some y
      → x.handle ≡ y.handle → i ≡ j
  same_client i j x y p q e =
      let not_before : i < j → ⊥ = (λ l. omega (arith, e, rising_before 0 a.facts.clients i j x y a.formed.handles l p q)) in
      let not_after : j < i → ⊥ = (λ l. omega (arith, e, rising_before 0 a.facts.clients j i y x a.formed.handles l q p)) in
      omega arith

  -- a seat's I/O grant is the one that its record says, or none
  pub io_said : (s : ℕ) → s < most_seats → IoUsed b s → a.facts.io s ≡ some (io_in b s)
  io_said s l u = ap (λ (F : Facts). F.io s) facts_in_lem ∙ io_here_lem b s (omega arith) u

  pub no_io_said : (s : ℕ) → s < most_seats → (IoUsed b s → ⊥) → a.facts.io s ≡ none
  no_io_said s l d = ap (λ (F : Facts). F.io s) facts_in_lem ∙ no_io_here b s (omega arith) d

  -- a card is present as its byte says
  pub card_said : (s : ℕ) → s < most_sockets → a.facts.card s ≡ marked (byte b (cards_at + s))
  unfolding facts_in
  card_said s l =
      ap (λ (F : Facts). F.card s) facts_in_lem ∙ below_in most_sockets false (λ s. marked (byte b (cards_at + s))) s l

  -- a level is managed and reserved as its record says
  pub level_said : (l : ℕ) → l < all_levels → a.facts.level l ≡ level_in b l
  unfolding facts_in
  level_said l h =
      ap (λ (F : Facts). F.level l) facts_in_lem
      ∙ below_in all_levels (record { managed = false; reserved = false }) (level_in b) l h

  -- the ranges are those that the records say, each in its place
  ranges_said : a.facts.ranges ≡ up_to (ranges_in b) (range_in b)
  unfolding facts_in
  ranges_said = ap (λ (F : Facts). F.ranges) facts_in_lem

  pub range_of : (i : ℕ) → i < ranges_in b → get_elem? a.facts.ranges i ≡ some (range_in b i)
  range_of i l = ap (λ (rs : List Range). get_elem? rs i) ranges_said ∙ at-up_to (ranges_in b) (range_in b) i l

  pub range_listed : (i : ℕ) → i < ranges_in b → range_in b i ∈ a.facts.ranges
  range_listed i l = at_in a.facts.ranges i (range_of i l)

  pub listed_range : (r : Range) → r ∈ a.facts.ranges → (i : ℕ) × (i < ranges_in b) × (r ≡ range_in b i)
  listed_range r m = in-up_to r (ranges_in b) (range_in b) (subst (λ (rs : List Range). r ∈ rs) ranges_said m)

  pub range_base_lem : (i : ℕ) → (range_in b i).base ≡ range_base b i
  unfolding range_in
  range_base_lem i = refl

  pub range_count_lem : (i : ℕ) → (range_in b i).count ≡ range_count b i
  unfolding range_in
  range_count_lem i = refl

  -- a port is managed as the records say
  pub managed_said : (p : ℕ) → ManagedIn b p → Managed a.facts p
  managed_said p m = subst (λ (F : Facts). Managed F p) (sym facts_in_lem) (managed_of b p m)

  pub said_managed : (p : ℕ) → Managed a.facts p → ManagedIn b p
  said_managed p m = managed_in_lem b p (subst (λ (F : Facts). Managed F p) facts_in_lem m)
