-- an identity whose agent dies, and the recoverer that begins then
use Rattle.std.proofs.Common.{◌≡◌, ℕ, ◌<◌, refl, sym, ap, ◌∙◌, subst, true, cond, List, [], length}
use Rattle.std.proofs.lemmas.List.{get_or-set_same}
use Rattle.std.specs.Prelude.{Option, Some, None, IfSome}
use Rattle.shm_graph.specs.declared.{ask.Me.Me, memo.{Kind.{Kind, TheVariants.{Client, Recoverer}}, Memo.Memo}}
use Rattle.shm_graph.specs.{declared.run.Account.Account, Agents.{acts, died, entered}, Events.Event}
use Rattle.shm_graph.specs.Runs.{MayBegin, account_died, changed, memos_of}
use Rattle.shm_graph.proofs.Memos.MemoSteps.{acts-died, fell-died}
use Rattle.shm_plain.specs.{Pools.{MayStep, Pool, after_fall, memo_of, readied}, Tracks.kind_next, Calls.Did}
use Rattle.shm_plain.proofs.{Turning.ready_memo, Called.Called}
use Rattle.plans.specs.{CallsControl.{calls_control, calls_does, calls_of}, CallsFit.{CallsFits, CallsGives}}
use Rattle.plans.specs.Proved.CallsKeep.{calls_begin, calls_tells}
use Rattle.shm_recover.specs.Mend.{Control.{mend_parts, mending, mend_steered}, IsMended, MayMend, mend_plan}
use Rattle.shm_recover.specs.Proved.Mend.Laws.{mend_begin, mend_laws}

module _ (p : Pool) (c : ℕ) (l : c < length p.accounts) (act : acts (memo_of p c) ≡ true) where
  abbrev d : Memo
  d = died (memo_of p c)

  fallen_memo : memo_of (after_fall p c) c ≡ d
  fallen_memo = ap (λ b. memos_of (cond b (changed account_died p.accounts c) p.accounts) c) act ∙ ap (λ (x : Account). x.memo) (get_or-set_same p.accounts c _ _ l)

  kind : kind_next d ≡ Recoverer
  kind = ap (λ b. cond b Recoverer Client) (fell-died (memo_of p c) act)

  -- a recoverer may begin
  pub may_recover : MayStep (after_fall p c) c
  may_recover e = subst (λ (m : Memo). MayBegin (kind_next m) m) (sym fallen_memo) (subst (λ (k : Kind). MayBegin k d) (sym kind) (fell-died (memo_of p c) act))

  -- and it does before the next word step
  pub recovers_then : c < length (after_fall p c).accounts → memo_of (readied (after_fall p c) c) c ≡ entered Recoverer d
  recovers_then m =
      ready_memo (after_fall p c) c m
      ∙ (ap (λ (x : Memo). cond (acts x) x (entered (kind_next x) x)) fallen_memo
      ∙ (ap (λ b. cond b d (entered (kind_next d) d)) (acts-died (memo_of p c)) ∙ ap (λ (k : Kind). entered k d) kind))

-- ---- what the recoverer's mending leaves

module _ (p q : Pool) (c : ℕ) (me : Me) (x y : ℕ) where
  abbrev r0 : Memo
  r0 = memo_of (readied p c) c

  pub fits_then : MayMend me r0 → CallsFits mend_parts mend_plan (calls_of mend_steered (mending me)) r0 r0 []
  fits_then may = calls_begin mend_parts mend_plan mend_laws (mending me) r0 refl refl (mend_begin me r0 may)

  -- it is mended, and the events are those that the mending tells of
  pub mend_answer : (o : Option (Unit {0})) → MayMend me r0 → Called (calls_control mend_parts mend_steered) (CallsFits mend_parts mend_plan) (CallsGives mend_parts mend_plan) c p (calls_of mend_steered (mending me)) q x y o
      → IfSome o (λ a. (es : List Event) × Did c p q es × IsMended me r0 (memo_of q c) (memo_of q c).call es)
  mend_answer None may call = tt
  mend_answer (Some a) may call =
      let gave = call.gave r0 (fits_then may) in
      (_, call.events (call.ran.some refl) refl (calls_does mend_parts mend_plan) (calls_tells mend_parts mend_plan mend_laws), gave.leaves)
