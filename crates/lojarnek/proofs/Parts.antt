-- what of a memo stays where agents begin and die, and by a join and a recovery
use Rattle.std.proofs.Common.{◌≡◌, ℕ, Bool, true, false, if◌then◌else◌, refl, ap, ◌∙◌}
use Rattle.std.specs.Prelude.{Option}
use Rattle.shm_graph.specs.declared.{memo.{Kind.TheVariants.Client, Memo.Memo}, run.Account.Account, table.Part.Part}
use Rattle.shm_graph.specs.{Agents.acts, Core.core, Runs.account_entered}
use Rattle.kind_parts.specs.Reparting.{map_in}
use Rattle.shm_pool.specs.{Endings.HasRecovered as Ended, Tokens.{Token, live, recovering_account}}
use Rattle.lojarnek.specs.Standing.{IsRecovered, KeepsMap}

-- of the account in which a recoverer has begun
begun_part : (b : Bool) (e : Account) → (if b then e else account_entered Client e).memo.part ≡ e.memo.part
begun_part true e = refl
begun_part false e = refl

begun_who : (b : Bool) (e : Account) → (if b then e else account_entered Client e).who ≡ e.who
begun_who true e = refl
begun_who false e = refl

pub recovering_who : (e : Account) → (recovering_account e).who ≡ e.who
recovering_who e = begun_who (acts e.memo) e

pub recovering_part : (e : Account) → (recovering_account e).memo.part ≡ e.memo.part
recovering_part e = begun_part (acts e.memo) e

-- an identity that has joined has the map that it had
pub joined_map : (e e' : Account) → core e'.memo ≡ core (live e.memo) → KeepsMap e e'
joined_map e e' same k = ap (λ (m : Memo). map_in m.part k) same

-- and so has one that is recovered
pub recovered_map : (c v : Token) (before left : ℕ) → Ended c.of c.account before left v → KeepsMap c.account v.account
recovered_map c v before left h k = ap (λ (f : ℕ → Option (ℕ × ℕ)). f k) h.answered.gave.leaves.map ∙ ap (λ (p : Part). map_in p k) (recovering_part c.account)

pub has_recovered : (c v : Token) (before left : ℕ) → Ended c.of c.account before left v → IsRecovered c v
has_recovered c v before left h = record { same = (h.same.0, h.same.1 ∙ recovering_who c.account); gone = h.gone; map = recovered_map c v before left h }
