-- clients of a pool that threads share: how they come to have nothing that waits, and stay so
use Rattle.std.proofs.Common.{◌≡◌, ℕ, Bool, true, false, List, refl, ap, ◌∙◌, subst}
use Rattle.std.specs.Prelude.{slice_index}
use Rattle.shm_graph.specs.declared.{ask.Me.Me, memo.{Kind.TheVariants.Client, Memo.Memo}, run.Start.Start}
use Rattle.shm_graph.specs.{Agents.entered, Asks.Trail, Events.Event, Held.is_loose, Laws.Control, Runs.first_memo}
use Rattle.shm_graph.proofs.States.FirstHeld.{same_everywhere}
use Rattle.shm_count.specs.Waiting.{LeavesQueues}
use Rattle.shm_recover.specs.Join.{JoinGives, join_fresh}
use Rattle.shm_pool.specs.{Called.Rests, declared.reply.Reply.TheVariants.Done, Doing.HasDone, Tokens.Acting}
use Rattle.t_uses.specs.Sharing.{IsQuiet}

-- where it joins for the first time
pub quiet_first : (s : Start) (me : Me) (c : ℕ) (m0 : Memo) (t : Acting) (tr : Trail) → s.tables ≡ false → m0 ≡ entered Client (first_memo s c) → JoinGives (join_fresh me) m0 t.account.memo tr tt → Rests t → IsQuiet t
quiet_first s me c m0 t tr tables e gives rests =
    let x = subst (λ (z : Memo). JoinGives (join_fresh me) z t.account.memo tr tt) e gives in
    record {
      rests = rests;
      single = λ d. ap (λ (z : Memo). is_loose z.part) x.rest ∙ ap (λ (b : Bool). is_loose (first_memo (record s { tables = b }) c).part) tables;
      unsent = λ d i. ap (λ (z : Memo). slice_index z.unsent i) x.rest ∙ same_everywhere s.geometry.clients i 0;
      untaken = λ d i. ap (λ (z : Memo). slice_index z.untaken i) x.rest ∙ same_everywhere s.geometry.clients i 0;
    }

-- one that lives stays so by what leaves its queues
pub quiet_after : (t t' : Acting) → IsQuiet t → t.dead ≡ false → Rests t' → LeavesQueues t.account.memo t'.account.memo → IsQuiet t'
quiet_after t t' h alive rests left =
    record {
      rests = rests;
      single = λ d. left.loose ∙ h.single alive;
      unsent = λ d j. left.unsent j ∙ h.unsent alive j;
      untaken = λ d j. left.untaken j ∙ h.untaken alive j;
    }

-- who is answered hasn't died before
pub alive_before : {M A : Type 0} (k : Control M A) (does : M → ℕ → Event) (leaves : M → Memo → Memo → Trail → List Event → A → Type 0) (ends : M → A → Type 0) (m : M) (t t' : Acting) (before left : ℕ) (a : A) → HasDone k does leaves ends m t t' before left (Done a) → t.dead ≡ false
alive_before k does leaves ends m t t' before left a h = by t.dead refl
  where
    by : (b : Bool) → t.dead ≡ b → t.dead ≡ false
    by true dead = absurd (h.again dead).0
    by false alive = alive
