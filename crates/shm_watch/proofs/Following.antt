-- where an identity stands among the agents of all, and one turn more
use Rattle.std.proofs.Common.{◌≡◌, ◌≢◌, ℕ, zero, suc, ◌<◌, Bool, true, false, eqb, List, [], ◌∷◌, ◌++◌, append_assoc, append-nil, refl, sym, ap, ◌∙◌, arith}
use Rattle.std.proofs.lemmas.Bool.{cond-false, cond-true, eq-eqb, ne_eqb}
use Rattle.std.specs.Prelude.{Option, Some, None, slice_get, slice_set}
use Rattle.std.specs.List.{AllByRecursion}
use Rattle.shm_graph.specs.declared.ask.Me.{Me}
use Rattle.shm_script.specs.{declared.line.Line.Line, Ranges.LineFits}
use Rattle.shm_table.specs.Command.{LineMayStand}
use Rattle.shm_agents.proofs.WorkLaws.{may_stand}
use Rattle.shm_replay.proofs.Gathering.{same_some}
use Rattle.shm_watch.specs.declared.{shown.Shown.Shown, span.Span.Span}
use Rattle.shm_watch.specs.Columns.{Coursed, IsAt, IsNowhere, Laned, course_after, course_by, lane_after, lanes_after, span_after, span_among, span_in, told_by, told_with, who_of}

-- ---- where it stands

-- none of these agents are its own
pub nowhere : (ls : List Laned) (c : ℕ) → ((j : ℕ) (l : Laned) → slice_get ls j ≡ Some l → l.me.who ≢ c) → IsNowhere ls c
nowhere [] c h turn shown e = (refl, refl)
nowhere (l ∷ ls) c h turn shown e =
    let other : eqb l.me.who (who_of shown) ≡ false = ne_eqb l.me.who (who_of shown) (λ f. h 0 l refl (f ∙ e)) in
    let rest = nowhere ls c (λ j r g. h (suc j) r g) turn shown e in (
      cond-false (eqb l.me.who (who_of shown)) (lane_after turn shown l ∷ ls) (l ∷ lanes_after turn shown ls) other ∙ ap (λ rs. l ∷ rs) rest.0,
      cond-false (eqb l.me.who (who_of shown)) (Some (span_after turn shown l)) (span_among turn shown ls) other ∙ rest.1,
    )

moved : (ls : List Laned) (c k : ℕ) (l : Laned) → ((j : ℕ) (r : Laned) → j < k → slice_get ls j ≡ Some r → r.me.who ≢ c) → slice_get ls k ≡ Some l → l.me.who ≡ c → (turn : ℕ) (shown : Shown) → who_of shown ≡ c → (lanes_after turn shown ls ≡ slice_set ls k (lane_after turn shown l)) × (span_among turn shown ls ≡ Some (span_after turn shown l))
moved [] c k l before here own turn shown e = absurd (cc)
moved (r ∷ ls) c zero l before here own turn shown e =
    let same : r ≡ l = same_some r l here in
    let mine : eqb r.me.who (who_of shown) ≡ true = eq-eqb r.me.who (who_of shown) (ap (λ (x : Laned). x.me.who) same ∙ (own ∙ sym e)) in (
      cond-true (eqb r.me.who (who_of shown)) (lane_after turn shown r ∷ ls) (r ∷ lanes_after turn shown ls) mine ∙ ap (λ (x : Laned). lane_after turn shown x ∷ ls) same,
      cond-true (eqb r.me.who (who_of shown)) (Some (span_after turn shown r)) (span_among turn shown ls) mine ∙ ap (λ (x : Laned). Some (span_after turn shown x)) same,
    )
moved (r ∷ ls) c (suc k) l before here own turn shown e =
    let other : eqb r.me.who (who_of shown) ≡ false = ne_eqb r.me.who (who_of shown) (λ f. before 0 r (omega arith) refl (f ∙ e)) in
    let rest = moved ls c k l (λ j q lt g. before (suc j) q (omega arith) g) here own turn shown e in (
      cond-false (eqb r.me.who (who_of shown)) (lane_after turn shown r ∷ ls) (r ∷ lanes_after turn shown ls) other ∙ ap (λ rs. r ∷ rs) rest.0,
      cond-false (eqb r.me.who (who_of shown)) (Some (span_after turn shown r)) (span_among turn shown ls) other ∙ rest.1,
    )

-- the first of its own
pub placed : (ls : List Laned) (c k : ℕ) (l : Laned) → ((j : ℕ) (r : Laned) → j < k → slice_get ls j ≡ Some r → r.me.who ≢ c) → slice_get ls k ≡ Some l → l.me.who ≡ c → IsAt ls c k
placed ls c k l before here own = (l, here, moved ls c k l before here own)

-- ---- one turn more

course_more : (c : Coursed) (ts : List Shown) (t : Shown) → course_by c (ts ++ t ∷ []) ≡ course_after (course_by c ts) t
course_more c [] t = refl
course_more c (u ∷ ts) t = course_more (course_after c u) ts t

told_more : (c : Coursed) (ts : List Shown) (t : Shown) → told_by c (ts ++ t ∷ []) ≡ told_by c ts ++ told_with t (span_in (course_by c ts) t)
told_more c [] t = append-nil (told_with t (span_in c t))
told_more c (u ∷ ts) t =
    ap (λ xs. told_with u (span_in c u) ++ xs) (told_more (course_after c u) ts t)
    ∙ sym (append_assoc (told_with u (span_in c u)) (told_by (course_after c u) ts) (told_with t (span_in (course_by (course_after c u) ts) t)))

-- where the agents are behind it, and what was told
pub followed : (f c c2 : Coursed) (ts : List Shown) (t : Shown) → c ≡ course_by f ts → c2 ≡ course_after c t → c2 ≡ course_by f (ts ++ t ∷ [])
followed f c c2 ts t at next = next ∙ (ap (λ (x : Coursed). course_after x t) at ∙ sym (course_more f ts t))

pub told_next : (f c : Coursed) (ts : List Shown) (t : Shown) (o : Option Span) → c ≡ course_by f ts → o ≡ span_in c t → told_by f (ts ++ t ∷ []) ≡ told_by f ts ++ told_with t o
told_next f c ts t o at is = told_more f ts t ∙ ap (λ (x : Option Span). told_by f ts ++ told_with t x) (ap (λ (x : Coursed). span_in x t) (sym at) ∙ sym is)

-- ---- scripts

-- the commands of a script in its ranges
pub all_stand : (me : Me) (ls : List Line) → AllByRecursion (LineFits me.geometry.clients me.who) ls → AllByRecursion (LineMayStand me) ls
all_stand me [] h = tt
all_stand me (l ∷ ls) h = (may_stand me l h.0, all_stand me ls h.1)
