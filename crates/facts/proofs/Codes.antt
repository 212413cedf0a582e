-- A code's number is one byte's, and no other code's; and the number that packs a code and another number. Assumes nothing.
use Rattle.facts.proofs.Words.{◌≡◌, refl, ap, sym, ◌∙◌, List, [], ◌∷◌, ℕ, ◌*◌, ◌<◌, add-zero, zero-add, arith}
use Rattle.facts.specs.{Code, Success, BadAttribute, BadBase, BadIrq, BadSize, BadSocket, NoCard, UnsupportedService, GeneralFailure}
use Rattle.facts.specs.{BadArgLength, BadArgs, InUse, NoMoreItems, OutOfResource, BadHandle, number_of, packed}
use Rattle.facts.proofs.Sets.{found}

-- the fifteen; a code is found again among them by its number, which is a byte's
abbrev codes : List Code
codes =
    Success ∷ BadAttribute ∷ BadBase ∷ BadIrq ∷ BadSize ∷ BadSocket ∷ NoCard ∷ UnsupportedService
    ∷ GeneralFailure ∷ BadArgLength ∷ BadArgs ∷ InUse ∷ NoMoreItems ∷ OutOfResource ∷ BadHandle ∷ []

code_told : (k : Code) → (number_of k < 256) × (found number_of Success (number_of k) codes ≡ k)
code_told Success = (omega arith, refl)
code_told BadAttribute = (omega arith, refl)
code_told BadBase = (omega arith, refl)
code_told BadIrq = (omega arith, refl)
code_told BadSize = (omega arith, refl)
code_told BadSocket = (omega arith, refl)
code_told NoCard = (omega arith, refl)
code_told UnsupportedService = (omega arith, refl)
code_told GeneralFailure = (omega arith, refl)
code_told BadArgLength = (omega arith, refl)
code_told BadArgs = (omega arith, refl)
code_told InUse = (omega arith, refl)
code_told NoMoreItems = (omega arith, refl)
code_told OutOfResource = (omega arith, refl)
code_told BadHandle = (omega arith, refl)

pub code_byte : (k : Code) → number_of k < 256
code_byte k = (code_told k).0

pub code_injective : (k k' : Code) → number_of k ≡ number_of k' → k ≡ k'
code_injective k k' e = sym (code_told k).1 ∙ ap (λ (n : ℕ). found number_of Success n codes) e ∙ (code_told k').1

-- SUCCESS with a number, and a refusal's code
pub packs_success : (n : ℕ) → 65536 * n ≡ packed Success n
packs_success n = sym (zero-add (65536 * n))

pub packs_code : (k : Code) (n : ℕ) → n ≡ number_of k → n ≡ packed k 0
packs_code k n e = e ∙ sym (add-zero (number_of k))
