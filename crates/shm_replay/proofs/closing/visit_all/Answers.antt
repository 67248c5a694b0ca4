use Rattle.std.proofs.Common.{◌≡◌, ◌≢◌, ℕ, ◌<◌, Bool, true, sym, ap, ◌∙◌, subst, arith, inl, inr, add-one, zero-add, length, refl}
use Rattle.std.proofs.lemmas.{Bool.cases_eq, Option.{get_or_from_slice_get, slice_get_read}}
use Rattle.std.specs.Prelude.{Some, None, slice_get, slice_index_or}
use Rattle.shm_graph.specs.{declared.{memo.Status.TheVariants.Gone, run.Account.Account}, Held.is_loose}
use Rattle.shm_graph.specs.Runs.{account_at}
use Rattle.kind_parts.specs.Reparting.{map_in}
use Rattle.shm_plain.specs.Pools.{memo_of}
use Rattle.shm_replay.specs.Closings.{AreVisits, HasTold, IsVisit, MayVisit, SameTable, is_dead}
use Rattle.shm_replay.proofs.{Visited.table_then, Visiting.visits_more}
use Rattle.shm_replay.proofs.closing.visit_all.Goals as goal

pub visit-requires-clause-may : goal.visit-requires-clause-may
visit-requires-clause-may g c =
    let l = c.loop-client in
    let h = l.invariant in
    let p = c.args.pool.now in
    let xs = c.args.agents.now in
    let x = c.index-agents-client.result in
    let me : c.new.result.who ≡ l.client = c.new.ensures.who in
    let within : l.client < length xs = (let t = c.loop-client-test.true in let n = c.requires.many in let k = h.clients in omega arith) in
    let few : l.client < p.start.geometry.clients = (let t = c.loop-client-test.true in let k = h.clients in omega arith) in
    let at : slice_get xs l.client ≡ Some x = slice_get_read xs (length xs) l.client x refl within c.index-agents-client.is in
    let dead : is_dead (slice_index_or xs l.client None) ≡ c.is_dead-dead.result = ap is_dead (get_or_from_slice_get xs l.client x None at) ∙ sym c.is_dead-dead.ensures in
    let there : MayVisit c.is_dead-dead.result (memo_of p l.client) = subst (λ (b : Bool). MayVisit b (memo_of p l.client)) dead (c.requires.may l.client few) in
    let here : MayVisit c.is_dead-dead.result (memo_of l.pool l.client) = subst (λ (a : Account). MayVisit c.is_dead-dead.result a.memo) (sym (h.later l.client (omega arith))) there in
    subst (λ (n : ℕ). MayVisit c.is_dead-dead.result (memo_of l.pool n)) (sym me) here

pub loop-client-preserved : goal.loop-client-preserved
loop-client-preserved g c =
    let l = c.loop-client in
    let h = l.invariant in
    let v = c.visit.ensures in
    let me : c.new.result.who ≡ l.client = c.new.ensures.who in
    let p = c.args.pool.now in
    let q = c.visit.new.pool in
    let other : (d : ℕ) → d ≢ l.client → account_at q.accounts d ≡ account_at l.pool.accounts d = (λ d n. v.others d (λ e. n (e ∙ me))) in
    let table : SameTable (memo_of l.pool l.client) (memo_of q l.client) = subst (λ (n : ℕ). SameTable (memo_of l.pool n) (memo_of q n)) me c.visit.ensures.table in
    let xs = c.args.agents.now in
    let within : l.client < length xs = (let t = c.loop-client-test.true in let n = c.requires.many in let k = h.clients in omega arith) in
    let x = c.index-agents-client.result in
    let at : slice_get xs l.client ≡ Some x = slice_get_read xs (length xs) l.client x refl within c.index-agents-client.is in
    let is_here : is_dead (slice_index_or xs l.client None) ≡ true → c.is_dead-dead.result ≡ true = (λ e. c.is_dead-dead.ensures ∙ (ap is_dead (sym (get_or_from_slice_get xs l.client x None at)) ∙ e)) in
    record {
      geometry = h.geometry;
      clients = h.clients;
      start = v.start ∙ h.start;
      run = v.run;
      visits = subst (λ (n : ℕ). AreVisits 0 n p q) (sym (add-one l.client)) (visits_more 0 l.client p l.pool q h.visits (subst (λ (n : ℕ). IsVisit n l.pool q) (me ∙ sym (zero-add l.client)) c.visit.ensures.visit));
      gone = λ d lt. elim (cases_eq d l.client) [
        | inl e ↦ subst (λ (n : ℕ). (memo_of q n).status ≡ Gone) (me ∙ sym e) c.visit.ensures.gone
        | inr n ↦ ap (λ (a : Account). a.memo.status) (other d n) ∙ h.gone d (omega arith)
      ];
      table = λ d. table_then (memo_of p d) (memo_of l.pool d) (memo_of q d) (h.table d) (elim (cases_eq d l.client) [
        | inl e ↦ subst (λ (n : ℕ). SameTable (memo_of l.pool n) (memo_of q n)) (sym e) table
        | inr n ↦ record { map = λ key. ap (λ (a : Account). map_in a.memo.part key) (other d n); loose = ap (λ (a : Account). is_loose a.memo.part) (other d n) }
      ]);
      told = λ d lt dead. elim (cases_eq d l.client) [
        | inl e ↦ subst (λ (n : ℕ). HasTold (account_at p.accounts n) (account_at q.accounts n)) (sym e)
            (subst (λ (a : Account). HasTold a (account_at q.accounts l.client)) (h.later l.client (omega arith))
            (subst (λ (n : ℕ). HasTold (account_at l.pool.accounts n) (account_at q.accounts n)) me (c.visit.ensures.told (is_here (ap (λ (n : ℕ). is_dead (slice_index_or xs n None)) (sym e) ∙ dead)))))
        | inr n ↦ subst (λ (a : Account). HasTold (account_at p.accounts d) a) (sym (other d n)) (h.told d (omega arith) dead)
      ];
      later = λ d le. other d (omega arith) ∙ h.later d (omega arith);
    }

pub returns-clause-table : goal.returns-clause-table
returns-clause-table g c k l = c.loop-client.invariant.table k
