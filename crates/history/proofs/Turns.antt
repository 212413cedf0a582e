-- How a change of facts turns them: what it gives back, what it makes, and what stays. Assumes nothing.
use Rattle.facts.proofs.Words.{◌≡◌, refl, sym, ◌∙◌, subst, ◌⊎◌, inl, inr, ⊎_elim, ◌↔◌, Bool, ℕ, ◌+◌, add-zero}
use Rattle.facts.specs.{Facts, Range, IoGrant, IrqGrant, put}
use Rattle.facts.proofs.{put_is}
use Rattle.history.specs.{Fact, client, mask, level, range, card, io, irq, Tells}

-- one fact: it stood and is given back or stays; it stands and is made or stood
abbrev pub Turned : Facts → Facts → (Fact → Type 0) → (Fact → Type 0) → Fact → Type 0
Turned F G Back New f = (Tells F f → Back f ⊎ Tells G f) × (Tells G f → New f ⊎ Tells F f)

-- all facts; n more handles are issued
pub record Turns (Back New : Fact → Type 0) (n : ℕ) (F G : Facts) : Type 0 where
  pub made : (f : Fact) → New f → Tells G f
  pub gone : (f : Fact) → Back f → Tells G f → ⊥
  pub each : (f : Fact) → Turned F G Back New f
  pub issued : G.issued ≡ F.issued + n
  pub sockets : G.sockets ≡ F.sockets

-- a fact stands after it exactly if it was made, or stood and was not given back
pub turned : {Back New : Fact → Type 0} {n : ℕ} {F G : Facts} → Turns Back New n F G → (f : Fact)
    → Tells G f ↔ (New f ⊎ (Tells F f × (Back f → ⊥)))
turned t f = (
  λ x. ⊎_elim inl (λ y. inr (y, λ b. t.gone f b x)) ((t.each f).1 x),
  ⊎_elim (t.made f) (λ y. ⊎_elim (λ b. absurd (y.1 b)) (λ x. x) ((t.each f).0 y.0)),
)

-- a change that issues no handle
pub unissued : {Back New : Fact → Type 0} {F G : Facts} → G.issued ≡ F.issued → G.sockets ≡ F.sockets → ((f : Fact) → New f → Tells G f)
    → ((f : Fact) → Back f → Tells G f → ⊥) → ((f : Fact) → Turned F G Back New f) → Turns Back New 0 F G
unissued {F = F} same sockets made gone each =
    record { made = made; gone = gone; each = each; issued = same ∙ sym (add-zero F.issued); sockets = sockets }

-- nothing changes, and nothing is given back or made
pub unturned : {Back New : Fact → Type 0} (F : Facts) → ((f : Fact) → Back f → ⊥) → ((f : Fact) → New f → ⊥) → Turns Back New 0 F F
unturned F back new = unissued refl refl (λ f m. absurd (new f m)) (λ f b _. back f b) (λ f. (inr, inr))

-- other words for what is given back and what is made
pub turns_as : {Back Back' New New' : Fact → Type 0} {n : ℕ} {F G : Facts} → ((f : Fact) → Back f ↔ Back' f) → ((f : Fact) → New f ↔ New' f)
    → Turns Back New n F G → Turns Back' New' n F G
turns_as back new t =
    record {
      made = λ f m. t.made f ((new f).1 m);
      gone = λ f b. t.gone f ((back f).1 b);
      each = λ f. (
        (λ x. ⊎_elim (λ b. inl ((back f).0 b)) inr ((t.each f).0 x)),
        (λ x. ⊎_elim (λ m. inl ((new f).0 m)) inr ((t.each f).1 x)),
      );
      issued = t.issued;
      sockets = t.sockets;
    }

-- the facts of each kind
pub by_kind : (P : Fact → Type 0) → ((h a m : ℕ) → P (client h a m)) → ((h s m : ℕ) → P (mask h s m)) → ((l : ℕ) (r : Bool) → P (level l r))
    → ((r : Range) → P (range r)) → ((s : ℕ) → P (card s)) → ((s : ℕ) (g : IoGrant) → P (io s g)) → ((s : ℕ) (g : IrqGrant) → P (irq s g))
    → (f : Fact) → P f
by_kind P c m l r d i q (client h a e) = c h a e
by_kind P c m l r d i q (mask h s e) = m h s e
by_kind P c m l r d i q (level n v) = l n v
by_kind P c m l r d i q (range x) = r x
by_kind P c m l r d i q (card s) = d s
by_kind P c m l r d i q (io s g) = i s g
by_kind P c m l r d i q (irq s g) = q s g

-- facts of different kinds differ
abbrev pub kind : Fact → ℕ
kind (client h a e) = 0
kind (mask h s e) = 1
kind (level n v) = 2
kind (range x) = 3
kind (card s) = 4
kind (io s g) = 5
kind (irq s g) = 6

-- and so do facts of different clients
abbrev pub client_in : Fact → ℕ
client_in (client h a e) = h
client_in (mask h s e) = h
client_in (level n v) = 0
client_in (range x) = 0
client_in (card s) = 0
client_in (io s g) = g.client
client_in (irq s g) = g.client

-- x is put in the place k: B and N say what is given back there and what is made, where y stands
pub put_turned : {A : Type 0} (f : ℕ → A) (k : ℕ) (x y : A) (B N : ℕ → Type 0) → (f k ≡ y → B k ⊎ (x ≡ y)) → (x ≡ y → N k ⊎ (f k ≡ y)) → (j : ℕ)
    → (f j ≡ y → B j ⊎ (put f k x j ≡ y)) × (put f k x j ≡ y → N j ⊎ (f j ≡ y))
put_turned {A} f k x y B N back new j = either_way (put_is f k x j)
  where
    either_way : ((j ≡ k) × (put f k x j ≡ x)) ⊎ ((j ≡ k → ⊥) × (put f k x j ≡ f j)) → (f j ≡ y → B j ⊎ (put f k x j ≡ y)) × (put f k x j ≡ y → N j ⊎ (f j ≡ y))
    either_way (inl (here, is)) =
        subst (λ (i : ℕ). (f i ≡ y → B i ⊎ (put f k x j ≡ y)) × (put f k x j ≡ y → N i ⊎ (f i ≡ y))) (sym here)
        ((λ e. ⊎_elim inl (λ q. inr (is ∙ q)) (back e)), (λ e. new (sym is ∙ e)))
    either_way (inr (other, is)) = ((λ e. inr (is ∙ e)), (λ e. inr (sym is ∙ e)))
