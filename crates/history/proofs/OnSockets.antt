-- The services on a socket: what each begins with, and what is left to it. Assumes nothing.
use Rattle.facts.proofs.Words.{◌≡◌, refl, ap, inl, List, [], ◌∷◌, ℕ, ◌+◌, arith, length, drop, replicate, length-replicate, T, WellFormed}
use Rattle.facts.specs.{Code, GeneralFailure, BadArgLength, BadHandle, BadSocket, Facts, Client, fresh, ◌∈◌, Live, Check, FirstGiven, Passed}
use Rattle.facts.specs.{release_checks, request_mask_checks, release_mask_checks, irq_request_checks, irq_release_checks, io_request_checks, io_release_checks}
use Rattle.facts.specs.{Service, register_client, request_irq, release_irq, request_io, release_io, request_socket_mask, release_socket_mask, rule_of}
use Rattle.facts.proofs.{fresh_formed}
use Rattle.facts_cases.specs.{done, refused, one_client, client_packet}
use Rattle.facts_cases.proofs.{cases, ◌then◌, ◌nor◌, listed_alone}
use Rattle.history.specs.{Ours, service, CanGive}
use Rattle.history.proofs.Giving.{all_bytes, left, general, refuses, first, here, ◌past◌}

-- a table for the examples: it is well formed, and the client 1 is live
pub record Ready (F : Facts) : Type 0 where
  pub formed : WellFormed F
  pub live : Live F 1

pub ready : {F : Facts} → WellFormed F → (c : Client) → c ∈ F.clients → c.handle ≡ 1 → Ready F
ready w c m e = record { formed = w; live = record { client = c; listed = m; handle = e } }

-- no client, and one client; no card is in
pub two_sockets : WellFormed (fresh 2)
two_sockets = fresh_formed 2 (omega arith) (omega arith)

pub one_client_lem : Ready one_client
one_client_lem =
    ready (left two_sockets register_client 0 client_packet (done 1 client_packet one_client) tt cases.n10.0.permitted) _ (inl refl) refl

not_live : Live one_client 0 → ⊥
not_live l = omega (arith, l.handle, ap (λ (c : Client). c.handle) (listed_alone l.listed))

-- a packet for a socket
abbrev pub for : ℕ → List ℕ → List ℕ
for s q = s ∷ 0 ∷ q

-- a service on a socket: how many bytes of its packet follow socket and function, what it checks by itself, and that its rule refuses by that
pub record OnSocket (v : Service) : Type 1 where
  pub more : ℕ
  pub own : Facts → ℕ → List ℕ → List Check
  pub refusal : (F : Facts) (h : ℕ) (p : List ℕ) (k : Code) → FirstGiven (release_checks (more + 2) F h p (own F h p)) k
      → rule_of v F h p (refused k p F)

module _ {v : Service} (x : OnSocket v) where
  refusing : {F : Facts} → Ready F → (h : ℕ) (p : List ℕ) (k : Code) → T (all_bytes p)
      → FirstGiven (release_checks (x.more + 2) F h p (x.own F h p)) k → CanGive Ours (service v) k
  refusing {F} r h p k t f = refuses r.formed v h p k t (x.refusal F h p k f)

  -- what it begins with passes for the client 1 and the socket 0
  module _ {F : Facts} (r : Ready F) (q : List ℕ) (sized : length q ≡ x.more) where
    begun : Passed (release_checks (x.more + 2) F 1 (for 0 q) [])
    begun =
        (λ e. e (omega (arith, sized))) then (λ e. e r.live) then ((λ e. omega (arith, r.formed.sockets_least)) nor (λ e. e refl)) then tt

    pub own_passed : Passed (x.own F 1 (for 0 q)) → Passed (release_checks (x.more + 2) F 1 (for 0 q) (x.own F 1 (for 0 q)))
    own_passed p = begun.0 then begun.1.0 then begun.1.1.0 then p

    pub own_refuses : T (all_bytes q) → (k : Code) → FirstGiven (x.own F 1 (for 0 q)) k → CanGive Ours (service v) k
    own_refuses t k f = refusing r 1 (for 0 q) k t (begun.0 past begun.1.0 past begun.1.1.0 past f)

  -- and refuses no table, a packet of no bytes, the handle 0, and the socket 2 of two
  pub begins : {R : Type 0} → T (all_bytes (replicate x.more 0)) → R
      → CanGive Ours (service v) GeneralFailure × (CanGive Ours (service v) BadArgLength × (CanGive Ours (service v) BadHandle
      × (CanGive Ours (service v) BadSocket × R)))
  begins t rest =
      general v
      then refusing one_client_lem 1 [] BadArgLength tt (here (omega arith))
      then refusing one_client_lem 0 (for 0 zeros) BadHandle t ((λ e. e sized) past here not_live)
      then refusing one_client_lem 1 (for 2 zeros) BadSocket t ((λ e. e sized) past (λ e. e one_client_lem.live) past here (inl (omega arith)))
      then rest
    where
      zeros : List ℕ
      zeros = replicate x.more 0

      sized : length (for 0 zeros) ≡ x.more + 2
      sized = omega (arith, length-replicate {A = ℕ} x.more 0)

-- each by its checks
abbrev past_first : (Facts → ℕ → List ℕ → List Check) → Facts → ℕ → List ℕ → List Check
past_first checks F h p = drop 3 (checks F h p)

abbrev pub irq_requests : OnSocket request_irq
irq_requests = record { more = 6; own = past_first irq_request_checks; refusal = λ F h p k f. first f }

abbrev pub irq_releases : OnSocket release_irq
irq_releases = record { more = 3; own = past_first irq_release_checks; refusal = λ F h p k f. first f }

abbrev pub io_requests : OnSocket request_io
io_requests = record { more = 9; own = past_first io_request_checks; refusal = λ F h p k f. first f }

abbrev pub io_releases : OnSocket release_io
io_releases = record { more = 9; own = past_first io_release_checks; refusal = λ F h p k f. first f }

abbrev pub mask_requests : OnSocket request_socket_mask
mask_requests = record { more = 2; own = past_first request_mask_checks; refusal = λ F h p k f. first f }

abbrev pub mask_releases : OnSocket release_socket_mask
mask_releases = record { more = 0; own = past_first release_mask_checks; refusal = λ F h p k f. first f }
