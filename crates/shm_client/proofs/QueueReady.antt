-- identities that have just joined have nothing to finish; and the first two differ
use Rattle.std.proofs.{Common.{◌≡◌, ◌≢◌, ℕ, Bool, false, sym, ap, ◌∙◌, subst}, lemmas.Bool.true≢false}
use Rattle.std.specs.Prelude.{◌==◌, slice_index}
use Rattle.shm_words.specs.declared.geometry.Geometry.{Geometry}
use Rattle.shm_graph.specs.{declared.{memo.{Kind.TheVariants.Client, Memo.Memo}, run.Start.Start}, Agents.entered}
use Rattle.shm_graph.specs.{Asks.Trail, Held.is_loose, Runs.first_memo}
use Rattle.shm_graph.proofs.States.FirstHeld.{same_everywhere}
use Rattle.shm_count.specs.Roots.{member}
use Rattle.shm_recover.specs.Join.{JoinGives, join_fresh}
use Rattle.shm_client.specs.Clear.{IsClear}

-- once it has joined a pool for the first time
pub clear_join : (s : Start) (g : Geometry) (c : ℕ) (m0 m : Memo) (tr : Trail) → s.tables ≡ false → m0 ≡ entered Client (first_memo s c) → JoinGives (join_fresh (member g c)) m0 m tr tt → IsClear m
clear_join s g c m0 m tr single e gives =
    let x = subst (λ (z : Memo). JoinGives (join_fresh (member g c)) z m tr tt) e gives in
    record {
      loose = ap (λ (z : Memo). is_loose z.part) x.rest ∙ ap (λ (b : Bool). is_loose (first_memo (record s { tables = b }) c).part) single;
      latch = ap (λ (z : Memo). z.latch) x.rest;
      dying = ap (λ (z : Memo). z.dying) x.rest;
      unsent = λ i. ap (λ (z : Memo). slice_index z.unsent i) x.rest ∙ same_everywhere s.geometry.clients i 0;
      untaken = λ i. ap (λ (z : Memo). slice_index z.untaken i) x.rest ∙ same_everywhere s.geometry.clients i 0;
    }

-- two identities
pub zero_not_one : ◌≢◌ {A = ℕ} 0 1
zero_not_one e = absurd (true≢false (ap (λ n. n == 0) e))

pub one_not_zero : ◌≢◌ {A = ℕ} 1 0
one_not_zero e = zero_not_one (sym e)
