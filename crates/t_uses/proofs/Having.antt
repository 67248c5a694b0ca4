-- clients of a pool for single calls: how they come to have a block, and keep it
use Rattle.std.proofs.Common.{◌≡◌, ℕ, Bool, true, false, List, Option, refl, ap, ◌∙◌}
use Rattle.plans.specs.Plans.{Planned}
use Rattle.shm_graph.specs.{Asks.Trail, Events.Event, Held.is_loose, Laws.Control, Reach.is_reached}
use Rattle.shm_graph.specs.declared.memo.Memo.{Memo}
use Rattle.shm_count.specs.{declared.answer.Made.Made, Roots.root_word}
use Rattle.shm_count.proofs.RootSpots.{roots_reached}
use Rattle.shm_pool.specs.{declared.reply.Reply.TheVariants.Done, Called.HasCalled, Doing.HasDone, Tokens.Acting}
use Rattle.t_uses.specs.Singles.{HasBlock}

-- who was answered lives
pub alive_after : {M A : Type 0} (k : Control M A) (does : M → ℕ → Event) (leaves : M → Memo → Memo → Trail → List Event → A → Type 0) (ends : M → A → Type 0) (m : M) (t t' : Acting) (before left : ℕ) (a : A) → HasDone k does leaves ends m t t' before left (Done a) → t'.dead ≡ false
alive_after k does leaves ends m t t' before left a h = by t'.dead refl
  where
    by : (b : Bool) → t'.dead ≡ b → t'.dead ≡ false
    by true dead = absurd (h.died.1 dead)
    by false alive = alive

-- the block is in reach
pub reached : (l : Option ℕ) (x : Made) (t : Acting) → HasBlock l x t → is_reached t.account.who t.account.memo x.block ≡ true
reached l x t b = roots_reached t.account.who t.account.memo (b.at.rests.between b.at.alive).idle.op x.root x.block b.low b.some b.named

-- what a call leaves that keeps the root
module _ {P C B A : Type 0} (k : Control C B) (q : Planned P C B A) (p : P) (t t' : Acting) (before left : ℕ) (a : A) (h : HasCalled k q p t t' before left (Done a)) where
  pub still : (l l' : Option ℕ) (x : Made) → HasBlock l x t → t'.account.memo.latch ≡ l' → is_loose t'.account.memo.part ≡ is_loose t.account.memo.part → root_word t.account.who t'.account.memo x.root ≡ root_word t.account.who t.account.memo x.root → HasBlock l' x t'
  still l l' x b latch loose root = record {
    at = record { alive = alive_after _ _ _ _ _ t t' before left a h.done; rests = h.rests; single = loose ∙ b.at.single; latch = latch };
    low = b.low;
    some = b.some;
    named = ap (λ (w : ℕ). root_word w t'.account.memo x.root) h.done.same.1 ∙ (root ∙ b.named);
  }
