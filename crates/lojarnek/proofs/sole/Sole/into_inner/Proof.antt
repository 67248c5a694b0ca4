-- `into_inner` takes the value out. Assumes `Logic`.
use mathlib.Core.Path.{refl, sym, subst, ◌≡◌}
use mathlib.Core.List.{List, [], ◌∷◌, ◌++◌}
use seplogic.Ra.Ura.{Ura}
use mir.Syntax.{Fn, a_type}
use mir.Val.{Val}
use mir.MapTy.{inst_fn}
use base.Logic.{SProp, ent, sep, via, emp, fst∗, snd∗}
use prog.Memory.{Memory}
use prog.Routine.{Routine}
use prog.Wp.{Calls, Loops, WpFn, Tables}
use types.Logic.{Logic, sem}
use contract.Monad.{Fun, fact, fact_i, fact_use}
use contract.Running.{tables, tables_of}
use sound.WpLaws.{WpFn-mono}
use types.Kit.{‵, raw, ◌⊛◌, ◌$◌, ◌∵◌, !, qed, by, move, keep, split, fsplit, fjoin, use0}
use types.Run.{stop, fld, of_opd, returns, enter}
use types.ByLocal.{alloc_all, pass_all, free_all, look_at, get, get_in, sets}
use types.Part.{sub, whole}
use denote.Exit.{no}
use denote.RattleType.{RattleType, owns}
use denote.Laws.{Are, Ises, Lawful, owns_show, showss}
use denote.Signature.{types_at, plain}
use denote.Steps.{nothing}
use denote.Param.{layout, layouts, param}
use denote.Param.Laws.{param_laws}
use denote.Triple.Clauses.{Clauses, closing}
use denote.Triple.Entry.{on_entry, alive}
use denote.Triple.Spec.{Meets, triple_of}
use denote.Triple.Table.{entered}
use denote.Triple.Walked.{Stays, stay_dropped, walk_of, walk_Meets}
use Rattle.std.proofs.{alloc.Calls.Goes-blank, cell.Inside.Good, raw_atomic.Walks.leaves}
use Rattle.lojarnek.specs.contracts.sole.Sole.{the_row, into_inner.{ended, clauses, Key.name as #self}}
use Rattle.lojarnek.proofs.Alone.{round, round_good, sole_out}
use Rattle.lojarnek.proofs.sole.Sole.into_inner.Statement as stated
use Rattle.lojarnek.proofs.sole.Sole.into_inner.Code as code

module _ (Y : RattleType) where
  abbrev function : Fn
  function = inst_fn (layouts (a_type ∷ []) (Y, tt)) code.function

  abbrev stayed : Stays (ended Y).signature.params (ended Y).kept
  stayed = (stay_dropped (plain (λ _. the_row (param 0 Y))) no, tt)

module _ (Y : RattleType) {M : Type 1} {𝓤 : Ura M} (𝓛 : Logic 𝓤) (L : Lawful 𝓛 (param 0 Y)) (mem : Memory → SProp 𝓤) (run : Routine → Fun 𝓤) where
  open 𝓛 use {H}

  abbrev held : Clauses 𝓤 (ended Y)
  held = clauses Y 𝓛 mem run

  module _ (C : Calls 𝓤 H) (Λ : Loops 𝓤 H) (z : (walk_of 𝓛 (ended Y) (stayed Y) held).Ghost) where
    abbrev At : List Val → (walk_of 𝓛 (ended Y) (stayed Y) held).Ghost
    At us = ((z.0.0, z.0.1, z.0.2, z.0.3, (us, tt)), z.1)

    abbrev Post : List Val → Val → SProp 𝓤
    Post us = (walk_of 𝓛 (ended Y) (stayed Y) held).post (At us)

    abbrev Goes : List Val → Type 1
    Goes us = ent 𝓤 ((walk_of 𝓛 (ended Y) (stayed Y) held).pre (At us)) (WpFn 𝓤 H C Λ (function Y) (us ++ []) (Post us))

    walks : (v : Val) → Good (layout Y) v → ent 𝓤 (sep 𝓤 (sem 𝓛 ((param 0 Y).own_val z.0.3.0.value (v ∷ []))) (alive 𝓛 (ended Y).signature z.0.0 z.0.1)) (WpFn 𝓤 H C Λ (function Y) (round v ∷ []) (Post (round v ∷ [])))
    walks v g =
        let x : Y.Denot = z.0.3.0.value in
        qed 𝓛 (‵ ((param 0 Y).own_val x (v ∷ [])) ∷ raw (alive 𝓛 (ended Y).signature z.0.0 z.0.1) ∷ []) ∵
        enter ! C Λ (function Y) (round v ∷ []) (Post (round v ∷ [])) $ alloc_all ! (λ l. pass_all ! refl (round_good Y v g, tt) $
        sets ! (of_opd ! (get_in ! (fld ! refl (stop !)) (sub ! 0 refl (whole !)))) refl g $ sets ! (of_opd ! (get ! refl)) refl g $
        use0 𝓛 (raw (fact 𝓤 (x ≡ x))) (fact_i 𝓤 (x ≡ x) (emp 𝓤) refl) $ nothing ! $ nothing ! $ fjoin ! $
        returns ! (look_at ! 0 refl) $ free_all ! refl $ keep ! (3 ∷ 0 ∷ 2 ∷ 1 ∷ []) $ by ! (leaves 𝓛 (ended Y) (stayed Y) held (At (round v ∷ [])) v x ((tt, tt), tt) (tt, tt)))

    entry : (us : List Val) → Goes us
    entry us =
        qed 𝓛 ((raw (alive 𝓛 (ended Y).signature z.0.0 z.0.1) ⊛ ‵ (owns (the_row (param 0 Y) ∷ []) z.0.3 (us, tt))) ∷ raw ((held z.0.0 z.0.3).requires z.1) ∷ []) ∵ split ! $ move ! (1 ∷ []) $ fsplit ! $ keep ! (0 ∷ 2 ∷ []) $
        sole_out Y ! L z.0.3.0 us (λ v g e.
        by ! (subst (λ (ws : List Val). ent 𝓤 (sep 𝓤 (sem 𝓛 ((param 0 Y).own_val z.0.3.0.value (v ∷ []))) (alive 𝓛 (ended Y).signature z.0.0 z.0.1)) (WpFn 𝓤 H C Λ (function Y) (ws ++ []) (Post ws))) (sym e) (walks v g)))

  meets : (𝓣 : Tables 𝓤 H) → Meets 𝓛 (ended Y).signature (WpFn 𝓤 H 𝓣.C 𝓣.Λ (function Y)) (closing 𝓛 (ended Y) held)
  meets 𝓣 =
      walk_Meets 𝓛 (ended Y) (stayed Y) (Goes-blank 𝓛 1 (plain (λ _. the_row (param 0 Y))) no (λ κs x f. tt), tt) held
      (WpFn 𝓤 H 𝓣.C 𝓣.Λ (function Y)) (WpFn-mono 𝓤 H 𝓛.laws 𝓣 (function Y))
      (λ z. let a = z.0.3 in let vss = z.0.4 in let Rs : List RattleType = types_at (ended Y).signature.params z.0.0 in
      fact_use 𝓤 (Are Rs (Ises Rs) a vss) (via 𝓤 (sem 𝓛 (owns Rs a vss)) (via 𝓤 (on_entry 𝓛 (ended Y).signature z.0.0 z.0.1 a vss) (fst∗ 𝓤 (on_entry 𝓛 (ended Y).signature z.0.0 z.0.1 a vss) ((held z.0.0 a).requires z.1)) (snd∗ 𝓤 (alive 𝓛 (ended Y).signature z.0.0 z.0.1) (sem 𝓛 (owns Rs a vss)))) (owns_show 𝓛 Rs (Ises Rs) (showss 𝓛 Rs) a vss)) (λ are.
      entry 𝓣.C 𝓣.Λ z vss.0))

pub into_inner_spec : {M : Type 1} → stated.statement M
unfolding tables_of
into_inner_spec 𝓤 𝓛 𝓜 𝓡 wired Y laws =
    let 𝓣 : Tables 𝓤 𝓛.H = tables_of 𝓤 𝓛.H 𝓜 (tables 𝓤 𝓛.H 𝓜 𝓡 𝓡.env) in
    entered 𝓤 𝓛.H (triple_of 𝓛 (ended Y).signature (closing 𝓛 (ended Y) (clauses Y 𝓛 𝓜.mem 𝓡.returns))) 𝓣.C 𝓣.Λ (#self (layouts (a_type ∷ []) (Y, tt))) (function Y) (code.unfolded 𝓤 𝓛.H 𝓜 𝓡 wired (Y, tt))
    (meets Y 𝓛 ((param_laws 0 Y laws).lawful 𝓛) 𝓜.mem 𝓡.returns 𝓣)
