-- the parts of the memos once one memo has changed
use Rattle.std.proofs.{Common.{◌≡◌, ℕ, Bool, false, refl, sym, ap, ◌∙◌, eqb, List, Option, []}, Math.Path.fun_ext}
use Rattle.std.specs.Prelude.{slice_index, slice_index_or}
use Rattle.shm_graph.specs.declared.{spot.Spot.Spot, memo.{Status.Status, Op.Op, Stored.Stored, Look.Look}}
use Rattle.shm_graph.specs.declared.memo.{Making.Making, Fact.Fact, Test.Test, Seen.Seen, Agent.Agent, Memo.Memo}
use Rattle.shm_graph.specs.{declared.table.Part.Part, Views.{View, view, at1}, Changes.{with_end, with_call}}
use Rattle.shm_graph.proofs.{Memos.Frames.{cond_same, at1_same, at1_twice}, Runs.Lists.{at1_here, at1_part}}

-- a part in which the memos x and y of c agree
pub same_part : {T : Type 0} (f : Memo → T) (r : ℕ → Memo) (c : ℕ) (x y : Memo) → f y ≡ f x → ◌≡◌ {A = ℕ → T} (λ d. f (at1 r c y d)) (λ d. f (at1 r c x d))
same_part f r c x y e = fun_ext (λ d. cond_same f (eqb c d) x y (r d) e)

-- a part that the memo m has as c's memo had it
pub part_stays : {T : Type 0} (f : Memo → T) (r : ℕ → Memo) (c : ℕ) (m : Memo) → f m ≡ f (r c) → ◌≡◌ {A = ℕ → T} (λ d. f (at1 r c m d)) (λ d. f (r d))
part_stays f r c m e = same_part f r c (r c) m e ∙ ap (λ s d. f (s d)) (at1_same r c (r c) refl)

-- the memo that is there
pub view_here : (r : ℕ → Memo) (c : ℕ) → view r ≡ view (at1 r c (r c))
view_here r c = sym (ap view (at1_same r c (r c) refl))

-- ---- the parts of one memo

-- what the invariant reads of one identity's memo
pub record Parts : Type 0 where
  pub status : Status
  pub own : List Stored
  pub op : Op
  pub latch : Option ℕ
  pub looks : List Look
  pub making : Option Making
  pub owned : List ℕ
  pub dying : List ℕ
  pub sent : ℕ → List ℕ
  pub unsent : ℕ → ℕ
  pub received : ℕ → List ℕ
  pub untaken : ℕ → ℕ
  pub facts : List Fact
  pub zeros : List Spot
  pub test : Option Test
  pub known : List Stored
  pub part : Part
  pub values : List ℕ
  pub made : List ℕ

-- a memo's parts
abbrev pub parts : Memo → Parts
parts m =
    record {
      status = m.status;
      own = m.own;
      op = m.op;
      latch = m.latch;
      looks = m.looks;
      making = m.making;
      owned = m.owned;
      dying = m.dying;
      sent = λ i. slice_index_or m.sent i [];
      unsent = λ i. slice_index m.unsent i;
      received = λ i. slice_index_or m.received i [];
      untaken = λ i. slice_index m.untaken i;
      facts = m.facts;
      zeros = m.zeros;
      test = m.test;
      known = m.known;
      part = m.part;
      values = m.values;
      made = m.made;
    }

-- the parts of c in a view, and a view with other parts of c
abbrev pub parts_of : View → ℕ → Parts
parts_of v c =
    record {
      status = v.status c;
      own = v.own c;
      op = v.op c;
      latch = v.latch c;
      looks = v.looks c;
      making = v.making c;
      owned = v.owned c;
      dying = v.dying c;
      sent = v.sent c;
      unsent = v.unsent c;
      received = v.received c;
      untaken = v.untaken c;
      facts = v.facts c;
      zeros = v.zeros c;
      test = v.test c;
      known = v.known c;
      part = v.part c;
      values = v.values c;
      made = v.made c;
    }

abbrev pub put_parts : View → ℕ → Parts → View
put_parts v c x =
    record {
      status = at1 v.status c x.status;
      own = at1 v.own c x.own;
      op = at1 v.op c x.op;
      latch = at1 v.latch c x.latch;
      looks = at1 v.looks c x.looks;
      making = at1 v.making c x.making;
      owned = at1 v.owned c x.owned;
      dying = at1 v.dying c x.dying;
      sent = at1 v.sent c x.sent;
      unsent = at1 v.unsent c x.unsent;
      received = at1 v.received c x.received;
      untaken = at1 v.untaken c x.untaken;
      facts = at1 v.facts c x.facts;
      zeros = at1 v.zeros c x.zeros;
      test = at1 v.test c x.test;
      known = at1 v.known c x.known;
      part = at1 v.part c x.part;
      values = at1 v.values c x.values;
      made = at1 v.made c x.made;
    }

-- the parts that are there
pub put_same : (v : View) (c : ℕ) → put_parts v c (parts_of v c) ≡ v
put_same v c =
    λ i.
    record {
      status = at1_same v.status c (v.status c) refl i;
      own = at1_same v.own c (v.own c) refl i;
      op = at1_same v.op c (v.op c) refl i;
      latch = at1_same v.latch c (v.latch c) refl i;
      looks = at1_same v.looks c (v.looks c) refl i;
      making = at1_same v.making c (v.making c) refl i;
      owned = at1_same v.owned c (v.owned c) refl i;
      dying = at1_same v.dying c (v.dying c) refl i;
      sent = at1_same v.sent c (v.sent c) refl i;
      unsent = at1_same v.unsent c (v.unsent c) refl i;
      received = at1_same v.received c (v.received c) refl i;
      untaken = at1_same v.untaken c (v.untaken c) refl i;
      facts = at1_same v.facts c (v.facts c) refl i;
      zeros = at1_same v.zeros c (v.zeros c) refl i;
      test = at1_same v.test c (v.test c) refl i;
      known = at1_same v.known c (v.known c) refl i;
      part = at1_same v.part c (v.part c) refl i;
      values = at1_same v.values c (v.values c) refl i;
      made = at1_same v.made c (v.made c) refl i;
    }

-- one memo is another one
pub put_memo : (r : ℕ → Memo) (c : ℕ) (m : Memo) → view (at1 r c m) ≡ put_parts (view r) c (parts m)
put_memo r c m =
    λ i.
    record {
      status = fun_ext (at1_part (λ (x : Memo). (parts x).status) r c m) i;
      own = fun_ext (at1_part (λ (x : Memo). (parts x).own) r c m) i;
      op = fun_ext (at1_part (λ (x : Memo). (parts x).op) r c m) i;
      latch = fun_ext (at1_part (λ (x : Memo). (parts x).latch) r c m) i;
      looks = fun_ext (at1_part (λ (x : Memo). (parts x).looks) r c m) i;
      making = fun_ext (at1_part (λ (x : Memo). (parts x).making) r c m) i;
      owned = fun_ext (at1_part (λ (x : Memo). (parts x).owned) r c m) i;
      dying = fun_ext (at1_part (λ (x : Memo). (parts x).dying) r c m) i;
      sent = fun_ext (at1_part (λ (x : Memo). (parts x).sent) r c m) i;
      unsent = fun_ext (at1_part (λ (x : Memo). (parts x).unsent) r c m) i;
      received = fun_ext (at1_part (λ (x : Memo). (parts x).received) r c m) i;
      untaken = fun_ext (at1_part (λ (x : Memo). (parts x).untaken) r c m) i;
      facts = fun_ext (at1_part (λ (x : Memo). (parts x).facts) r c m) i;
      zeros = fun_ext (at1_part (λ (x : Memo). (parts x).zeros) r c m) i;
      test = fun_ext (at1_part (λ (x : Memo). (parts x).test) r c m) i;
      known = fun_ext (at1_part (λ (x : Memo). (parts x).known) r c m) i;
      part = fun_ext (at1_part (λ (x : Memo). (parts x).part) r c m) i;
      values = fun_ext (at1_part (λ (x : Memo). (parts x).values) r c m) i;
      made = fun_ext (at1_part (λ (x : Memo). (parts x).made) r c m) i;
    }

-- the memo m of c changes by F, which changes its parts by f
pub changed_view : (r : ℕ → Memo) (c : ℕ) (m : Memo) (F : Memo → Memo) (f : Parts → Parts) → ((x : Memo) → parts (F x) ≡ f (parts x))
    → view (at1 r c (F m)) ≡ put_parts (view (at1 r c m)) c (f (parts_of (view (at1 r c m)) c))
changed_view r c m F f e =
    let s : ℕ → Memo = at1 r c m in
    ap view (sym (at1_twice r c m (F m))) ∙ (put_memo s c (F m) ∙ ap (put_parts (view s) c) (e m ∙ ap (λ x. f (parts x)) (sym (at1_here r c m))))

-- a new status
pub status_set : (r : ℕ → Memo) (c : ℕ) (m : Memo) (s : Status) (others : List Agent) → ◌≡◌ {A = View} (view (at1 r c (record m { status = s; agents = others }))) (record (view (at1 r c m)) { status = at1 (view (at1 r c m)).status c s })
status_set r c m s others = changed_view r c m (λ x. record x { status = s; agents = others }) (λ x. record x { status = s }) (λ x. refl) ∙ ap (λ (v : View). record v { status = at1 (view (at1 r c m)).status c s }) (put_same (view (at1 r c m)) c)

-- another step in progress
pub op_set : (r : ℕ → Memo) (c : ℕ) (m : Memo) (o : Op) → ◌≡◌ {A = View} (view (at1 r c (record m { op = o }))) (record (view (at1 r c m)) { op = at1 (view (at1 r c m)).op c o })
op_set r c m o = changed_view r c m (λ x. record x { op = o }) (λ x. record x { op = o }) (λ x. refl) ∙ ap (λ (v : View). record v { op = at1 (view (at1 r c m)).op c o }) (put_same (view (at1 r c m)) c)

-- other looks
pub looks_set : (r : ℕ → Memo) (c : ℕ) (m : Memo) (ls : List Look) → ◌≡◌ {A = View} (view (at1 r c (record m { looks = ls }))) (record (view (at1 r c m)) { looks = at1 (view (at1 r c m)).looks c ls })
looks_set r c m ls = changed_view r c m (λ x. record x { looks = ls }) (λ x. record x { looks = ls }) (λ x. refl) ∙ ap (λ (v : View). record v { looks = at1 (view (at1 r c m)).looks c ls }) (put_same (view (at1 r c m)) c)

-- what of the call binds
pub call_set : (r : ℕ → Memo) (c : ℕ) (m : Memo) (fs : List Fact) (zs : List Spot) (t : Option Test) (bs : List ℕ) (call : List Seen) (over : Bool) (agents : List Agent) → ◌≡◌ {A = View} (view (at1 r c (record m { facts = fs; zeros = zs; test = t; made = bs; call = call; over = over; agents = agents }))) (record (view (at1 r c m)) { facts = at1 (view (at1 r c m)).facts c fs; zeros = at1 (view (at1 r c m)).zeros c zs; test = at1 (view (at1 r c m)).test c t; made = at1 (view (at1 r c m)).made c bs })
call_set r c m fs zs t bs call over agents =
    let v : View = view (at1 r c m) in
    changed_view r c m (λ x. record x { facts = fs; zeros = zs; test = t; made = bs; call = call; over = over; agents = agents }) (λ x. record x { facts = fs; zeros = zs; test = t; made = bs }) (λ x. refl)
    ∙ ap (λ (u : View). record u { facts = at1 v.facts c fs; zeros = at1 v.zeros c zs; test = at1 v.test c t; made = at1 v.made c bs }) (put_same v c)

-- what a step finds or stores is no part of the call, and the end of an agent is no part of the view
abbrev uncalled : Memo → Memo
uncalled m = record m { call = []; over = false; agents = [] }

pub end_view : (r : ℕ → Memo) (c : ℕ) (n m : Memo) (ends : Bool) → view (at1 r c (with_end ends (with_call n m))) ≡ view (at1 r c m)
end_view r c n m ends = ap view (same_part uncalled r c m (with_end ends (with_call n m)) refl)
