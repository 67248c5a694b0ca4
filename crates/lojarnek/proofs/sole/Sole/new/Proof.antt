-- `new` puts the value in. Assumes `Logic`.
use mathlib.Core.Path.{refl, sym, subst, ◌≡◌}
use mathlib.Core.List.{List, [], ◌∷◌, ◌++◌}
use seplogic.Ra.Ura.{Ura}
use mir.Syntax.{Fn, a_type}
use mir.Val.{Val}
use mir.MapTy.{inst_fn}
use base.Logic.{SProp, ent, via, emp, fst∗, snd∗}
use prog.Memory.{Memory}
use prog.Routine.{Routine}
use prog.Wp.{Calls, Loops, WpFn, Tables}
use types.Logic.{Logic, sem}
use contract.Monad.{Fun, fact, fact_i, fact_use}
use contract.Running.{tables, tables_of}
use sound.WpLaws.{WpFn-mono}
use types.Kit.{‵, raw, ◌⊛◌, ◌$◌, ◌∵◌, !, qed, by, move, keep, split, fsplit, fjoin, use0}
use types.Run.{of_opd, returns, enter, and_then, no_more}
use types.ByLocal.{alloc_all, pass_all, free_all, look_at, get, sets}
use types.Part.{agg}
use denote.Exit.{no}
use denote.RattleType.{RattleType, owns}
use denote.Laws.{Are, Ises, Lawful, owns_show, showss, Is}
use denote.Signature.{types_at, plain}
use denote.Steps.{nothing}
use denote.Param.{layout, layouts, param}
use denote.Param.Laws.{param_laws}
use denote.Triple.Clauses.{Clauses, closing}
use denote.Triple.Entry.{on_entry, alive}
use denote.Triple.Spec.{Meets, triple_of}
use denote.Triple.Table.{entered}
use denote.Triple.Walked.{Stays, stay_dropped, walk_of, Goes-dropped, walk_Meets}
use Rattle.std.proofs.{cell.Inside.{Good, one}, raw_atomic.Walks.leaves}
use Rattle.lojarnek.proofs.Alone.{round, round_good, sole_in}
use Rattle.lojarnek.proofs.sole.Sole.new.Statement as stated
use Rattle.lojarnek.proofs.sole.Sole.new.Code as code
use Rattle.lojarnek.specs.contracts.sole.Sole.new.{ended, clauses, Key.name as #self}

module _ (Y : RattleType) where
  abbrev function : Fn
  function = inst_fn (layouts (a_type ∷ []) (Y, tt)) code.function

  abbrev stayed : Stays (ended Y).signature.params (ended Y).kept
  stayed = (stay_dropped (plain (λ _. param 0 Y)) no, tt)

module _ (Y : RattleType) {M : Type 1} {𝓤 : Ura M} (𝓛 : Logic 𝓤) (L : Lawful 𝓛 (param 0 Y)) (mem : Memory → SProp 𝓤) (run : Routine → Fun 𝓤) where
  open 𝓛 use {H}

  abbrev held : Clauses 𝓤 (ended Y)
  held = clauses Y 𝓛 mem run

  module _ (C : Calls 𝓤 H) (Λ : Loops 𝓤 H) (z : (walk_of 𝓛 (ended Y) (stayed Y) held).Ghost) where
    abbrev At : List Val → (walk_of 𝓛 (ended Y) (stayed Y) held).Ghost
    At us = ((z.0.0, z.0.1, z.0.2, z.0.3, (us, tt)), z.1)

    abbrev Post : List Val → Val → SProp 𝓤
    Post us = (walk_of 𝓛 (ended Y) (stayed Y) held).post (At us)

    abbrev Goes : List Val → Type 1
    Goes us = ent 𝓤 ((walk_of 𝓛 (ended Y) (stayed Y) held).pre (At us)) (WpFn 𝓤 H C Λ (function Y) (us ++ []) (Post us))

    walks : (v : Val) → Good (layout Y) v → Goes (v ∷ [])
    walks v g =
        let x : Y.Denot = z.0.3.0 in
        qed 𝓛 ((raw (alive 𝓛 (ended Y).signature z.0.0 z.0.1) ⊛ ‵ (owns (param 0 Y ∷ []) z.0.3 (v ∷ [], tt))) ∷ raw ((held z.0.0 z.0.3).requires z.1) ∷ []) ∵ split ! $ move ! (1 ∷ []) $ fsplit ! $ keep ! (0 ∷ 2 ∷ []) $
        sole_in Y ! x v $
        enter ! C Λ (function Y) (v ∷ []) (Post (v ∷ [])) $ alloc_all ! (λ l. pass_all ! refl (g, tt) $
        sets ! (of_opd ! (get ! refl)) refl g $ sets ! (agg ! (and_then ! (get ! refl) (no_more !))) refl (round_good Y v g) $
        use0 𝓛 (raw (fact 𝓤 (x ≡ x))) (fact_i 𝓤 (x ≡ x) (emp 𝓤) refl) $ nothing ! $ nothing ! $ fjoin ! $
        returns ! (look_at ! 0 refl) $ free_all ! refl $ keep ! (3 ∷ 0 ∷ 2 ∷ 1 ∷ []) $ by ! (leaves 𝓛 (ended Y) (stayed Y) held (At (v ∷ [])) (round v) (record { value = x }) (tt, tt) (tt, tt)))

    entry : (us : List Val) → Is (param 0 Y) z.0.3.0 us → Goes us
    entry us is = let got = one (layout Y) us (L.typed z.0.3.0 us is) in subst Goes (sym got.1) (walks got.0 got.2)

  meets : (𝓣 : Tables 𝓤 H) → Meets 𝓛 (ended Y).signature (WpFn 𝓤 H 𝓣.C 𝓣.Λ (function Y)) (closing 𝓛 (ended Y) held)
  meets 𝓣 =
      walk_Meets 𝓛 (ended Y) (stayed Y) (Goes-dropped 𝓛 1 (plain (λ _. param 0 Y)) no (λ κs x f. refl), tt) held
      (WpFn 𝓤 H 𝓣.C 𝓣.Λ (function Y)) (WpFn-mono 𝓤 H 𝓛.laws 𝓣 (function Y))
      (λ z. let a = z.0.3 in let vss = z.0.4 in let Rs : List RattleType = types_at (ended Y).signature.params z.0.0 in
      fact_use 𝓤 (Are Rs (Ises Rs) a vss) (via 𝓤 (sem 𝓛 (owns Rs a vss)) (via 𝓤 (on_entry 𝓛 (ended Y).signature z.0.0 z.0.1 a vss) (fst∗ 𝓤 (on_entry 𝓛 (ended Y).signature z.0.0 z.0.1 a vss) ((held z.0.0 a).requires z.1)) (snd∗ 𝓤 (alive 𝓛 (ended Y).signature z.0.0 z.0.1) (sem 𝓛 (owns Rs a vss)))) (owns_show 𝓛 Rs (Ises Rs) (showss 𝓛 Rs) a vss)) (λ are.
      entry 𝓣.C 𝓣.Λ z vss.0 are.0))

pub new_spec : {M : Type 1} → stated.statement M
unfolding tables_of
new_spec 𝓤 𝓛 𝓜 𝓡 wired Y laws =
    let 𝓣 : Tables 𝓤 𝓛.H = tables_of 𝓤 𝓛.H 𝓜 (tables 𝓤 𝓛.H 𝓜 𝓡 𝓡.env) in
    entered 𝓤 𝓛.H (triple_of 𝓛 (ended Y).signature (closing 𝓛 (ended Y) (clauses Y 𝓛 𝓜.mem 𝓡.returns))) 𝓣.C 𝓣.Λ (#self (layouts (a_type ∷ []) (Y, tt))) (function Y) (code.unfolded 𝓤 𝓛.H 𝓜 𝓡 wired (Y, tt))
    (meets Y 𝓛 ((param_laws 0 Y laws).lawful 𝓛) 𝓜.mem 𝓡.returns 𝓣)
