-- The contract of a call that is lent a struct and hands its fields on: the law `lent_call`, for any list of kinds of fields (`LentFields`), any clauses,
-- and any code that is of the form of `LentCode`. A function over the struct meets its contract where the function on the fields, in their order, meets
-- its own, and that contract's clauses at the fields give the struct's.
-- In order: what is said of the last values of the fields is what is said of the struct's; the two signatures; the entry, where what the struct owns is
-- what its fields own; the exit; and the law, at the function's code and then at its routine. The tables that may be written are given up for good to the
-- function on the fields, so that nothing comes back of them but what says their last lists, and their borrows, closed.
-- The laws take `Logic`, `hands_on_lem` that the table of calls is monotone under a frame, and `lent_call` a model. The rest assumes nothing.
use mathlib.Core.List.{List, [], ◌++◌, ◌∷◌}
use mathlib.Core.Path.{◌≡◌, subst}
use lib.Dec.{T}
use seplogic.Ra.Ura.{Ura}
use mir.Syntax.{Callee as Name, Fn, Sym, named}
use mir.Val.{Val, WT, has_ty, of_list, vstruct}
use base.Fml.{fsep, ftrue}
use base.Logic.{SProp, apply∗, comm∗, ent, guard, id⊢, mono_l, mono_r, sep, via, wand, wand_i}
use prog.Model.{Model}
use prog.Routine.{Env, Routine}
use prog.Wp.{Calls, Closed, Loops, WpFn}
use types.Logic.{Logic, sem}
use types.Kit.{ !, ◌$◌, ◌∵◌, ◌⊛◌, await, check, done, fjoin, frame, fsplit, join, keep, later, move, now as at_once, pick, qed, raw, show, some, split, updating, use1, ‵}
use sound.WpLaws.{FmC, fm_of}
use contract.Lifetimes.{Lfts, Shares, toks}
use contract.Monad.{top}
use contract.Running.{Running, tables, tables_of}
use denote.Exit.{Exit, Last, leaves, left, pair, unchanged, under, yes}
use denote.Laws.{Is, shows, valss}
use denote.RattleType.{Denots, owns}
use denote.Signature.{Slot, plain, types_at}
use denote.Signature.Struct.{takes}
use denote.Steps.{nothing, peeks, said}
use denote.Struct.Declared.{Declared, row, shape as shape_of}
use denote.Struct.Laws as LL
use denote.Struct.Recorded.{Recorded}
use denote.Struct.Struct.{Shape, Struct, exits_of, layout, machine, Struct-Lawful, Struct-Tells}
use denote.Triple.Clauses.{Clauses, Ended, Lasts, at_exit, closing, ensured, lasts}
use denote.Triple.End.{Fins, all, lasts_of}
use denote.Triple.Spec.{Back, Meets, triple_of}
use denote.Triple.Statement.{Contract, Triple}
use denote.Triple.Table.{cited, entered}
use Rattle.call_exports.proofs.LentCode.{hands_on, runs_on}
use Rattle.call_exports.proofs.LentFields.{FieldKind, rows, rows_lawful, slots, spelled, spelled_tell, vals}

-- ---- the last values: a pair's from its parts', a record's from those of the tuple of its fields, and that tuple's from those of a list of places; and what is said of each
abbrev pair_last : {X Y : Type 0} (e : Exit X) (f : Exit Y) (p : X × Y) → Last e p.0 → Last f p.1 → Last (pair e f) p
pair_last unchanged unchanged p w u = tt
pair_last unchanged (leaves L l S s r₀) p w u = (tt, u)
pair_last (leaves L l S s r₀) f p w u = (w, u)

abbrev under_last : {D X : Type 0} (to : D → X) (e : Exit X) (d : D) → Last e (to d) → Last (under to e) d
under_last to unchanged d w = tt
under_last to (leaves L l S s r₀) d w = w

abbrev together : (κs : Lfts 1) (ss : List (Slot 1)) (a : Denots (types_at ss κs)) → Fins κs ss (all yes ss) a → Last (exits_of yes (types_at ss κs)) a
together κs [] a ws = tt
together κs (s ∷ ss) a ws = pair_last ((s.row κs).exit yes) (exits_of yes (types_at ss κs)) a ws.0 (together κs ss a.1 ws.1)

module _ {M : Type 1} {𝓤 : Ura M} (𝓛 : Logic 𝓤) where
  pair_says : {X Y : Type 0} (e : Exit X) (f : Exit Y) (p : X × Y) (w : Last e p.0) (u : Last f p.1)
      → ent 𝓤 (sem 𝓛 (fsep (left e p.0 w) (left f p.1 u))) (sem 𝓛 (left (pair e f) p (pair_last e f p w u)))
  pair_says unchanged unchanged p w u = top 𝓤 _
  pair_says unchanged (leaves L l S s r₀) p w u = id⊢ 𝓤 _
  pair_says (leaves L l S s r₀) f p w u = id⊢ 𝓤 _

  under_says : {D X : Type 0} (to : D → X) (e : Exit X) (d : D) (w : Last e (to d)) → ent 𝓤 (sem 𝓛 (left e (to d) w)) (sem 𝓛 (left (under to e) d (under_last to e d w)))
  under_says to unchanged d w = id⊢ 𝓤 _
  under_says to (leaves L l S s r₀) d w = id⊢ 𝓤 _

  together_says : (κs : Lfts 1) (ss : List (Slot 1)) (a : Denots (types_at ss κs)) (ws : Fins κs ss (all yes ss) a)
      → ent 𝓤 (sem 𝓛 (lasts_of κs ss (all yes ss) a ws)) (sem 𝓛 (left (exits_of yes (types_at ss κs)) a (together κs ss a ws)))
  together_says κs [] a ws = id⊢ 𝓤 _
  together_says κs (s ∷ ss) a ws =
      let e : Exit (s.row κs).Denot = (s.row κs).exit yes in
      let f : Exit (Denots (types_at ss κs)) = exits_of yes (types_at ss κs) in
      let u : Last f a.1 = together κs ss a.1 ws.1 in
      via 𝓤 (sem 𝓛 (fsep (left e a.0 ws.0) (left f a.1 u))) (mono_r 𝓤 (sem 𝓛 (left e a.0 ws.0)) (together_says κs ss a.1 ws.1)) (pair_says e f a ws.0 u)

-- ---- the law, at the kinds ks of the fields, the struct's name ν, its record D with the way to the fields' values, and the reply's type N
module _ (ks : List FieldKind) (ν : Sym) (D : Type 0) (to : (κs : Lfts 1) → D → Denots (rows κs ks)) (one : (κs : Lfts 1) (x y : D) → to κs x ≡ to κs y → x ≡ y)
    (N : Declared) (L : LL.Laws N) where
  abbrev shape : Lfts 1 → Shape
  shape κs = record { name = ν; args = named 0 ∷ []; types = []; fields = rows κs ks }

  -- the function over the struct, and the function on its fields
  abbrev Caller : Ended
  Caller = record {
    signature = record { lifetimes = 1; outlives = []; params = plain (λ κs. Recorded (Struct (shape κs)) D (to κs) (one κs)) ∷ []; result = plain (λ _. row N) };
    kept = (yes, tt);
  }

  abbrev Callee : Ended
  Callee = record { signature = record { lifetimes = 1; outlives = []; params = slots ks; result = plain (λ _. row N) }; kept = all yes (slots ks) }

  -- the struct's last values from the fields'
  abbrev left_of : (κs : Lfts 1) (d : D) → Lasts Callee κs (to κs d) → Lasts Caller κs (d, tt)
  left_of κs d zs = (under_last (to κs) (exits_of yes (rows κs ks)) d (together κs (slots ks) (to κs d) zs), tt)

  -- the code
  abbrev function : Lfts 1 → Name → Fn
  function κs f = hands_on (layout (shape_of N)) (layout (shape κs)) f ks

  module _ {M : Type 1} {𝓤 : Ura M} (𝓛 : Logic 𝓤) (c : Clauses 𝓤 Caller) (c' : Clauses 𝓤 Callee) where
    -- the two contracts: ours at the struct, its at the fields
    open 𝓛 use {H}

    abbrev ours : Contract 𝓤
    ours = triple_of 𝓛 Caller.signature (closing 𝓛 Caller c)

    abbrev its : Contract 𝓤
    its = triple_of 𝓛 Callee.signature (closing 𝓛 Callee c')

    -- the clauses at the fields give the struct's: the ghost value, the `requires` and the `ensures`
    pub record Gives : Type 1 where
      pub ghosts : (κs : Lfts 1) (d : D) → (c κs (d, tt)).ghost → (c' κs (to κs d)).ghost
      pub asks : (κs : Lfts 1) (d : D) (g : (c κs (d, tt)).ghost) → ent 𝓤 ((c κs (d, tt)).requires g) ((c' κs (to κs d)).requires (ghosts κs d g))
      pub says : (κs : Lfts 1) (d : D) (g : (c κs (d, tt)).ghost) (r : N.D) (zs : Lasts Callee κs (to κs d))
          → ent 𝓤 ((c' κs (to κs d)).ensures (ghosts κs d g) r (at_exit Callee κs (to κs d) zs)) ((c κs (d, tt)).ensures g r (at_exit Caller κs (d, tt) (left_of κs d zs)))

    module _ (gives : Gives) where
      lasts_say : (κs : Lfts 1) (d : D) (zs : Lasts Callee κs (to κs d)) → ent 𝓤 (sem 𝓛 (lasts Callee κs (to κs d) zs)) (sem 𝓛 (lasts Caller κs (d, tt) (left_of κs d zs)))
      lasts_say κs d zs =
          let e : Exit (Denots (rows κs ks)) = exits_of yes (rows κs ks) in
          let w : Last e (to κs d) = together κs (slots ks) (to κs d) zs in
          qed 𝓛 (‵ (lasts Callee κs (to κs d) zs) ∷ []) ∵ use1 𝓛 (‵ (left e (to κs d) w)) (together_says 𝓛 κs (slots ks) (to κs d) zs) $
          use1 𝓛 (‵ (left (under (to κs) e) d (under_last (to κs) e d w))) (under_says 𝓛 (to κs) e d w) $ nothing ! $ move ! (1 ∷ 0 ∷ []) $ fjoin ! $ done !

      module _ (κs : Lfts 1) (qs : Shares 1) (d : D) (g : (c κs (d, tt)).ghost) where
        -- the fields' values, the struct's machine value, and at what each contract is taken
        abbrev x : Denots (rows κs ks)
        x = to κs d

        abbrev mach : Val
        mach = vstruct (of_list (vals κs ks x))

        abbrev our : ours.Ghost
        our = ((κs, qs, tt, (d, tt), (mach ∷ [], tt)), g)

        abbrev it : its.Ghost
        it = ((κs, qs, tt, x, valss (rows κs ks) (spelled κs ks) x), gives.ghosts κs d g)

        -- ---- the entry
        enters : ent 𝓤 (ours.pre our) (its.pre it)
        enters =
            qed 𝓛 ((raw (toks 𝓛 1 κs qs) ⊛ ‵ (fsep ((Struct (shape κs)).own_val x (mach ∷ [])) ftrue)) ∷ raw ((c κs (d, tt)).requires g) ∷ []) ∵ split ! $ move ! (1 ∷ []) $ fsplit ! $
            use1 𝓛 (‵ (owns (rows κs ks) x (valss (rows κs ks) (spelled κs ks) x))) (takes 𝓛 (shape κs) (spelled κs ks) (spelled_tell κs ks) x (mach ∷ [])) $
            -- [what the fields own; nothing; the token; the requires]
            move ! (3 ∷ []) $ use1 𝓛 (raw ((c' κs x).requires (gives.ghosts κs d g))) (gives.asks κs d g) $ move ! (3 ∷ 1 ∷ []) $ join ! $ keep ! (0 ∷ 1 ∷ []) $ done !

        -- ---- the exit
        ends : (u : Val) → ent 𝓤 (its.post it u) (H.⇛ (guard 𝓤 (T (has_ty (layout (shape_of N)) u) × WT u) (ours.post our u)))
        ends u =
            qed 𝓛 (later (some (λ (r : N.D). (raw (toks 𝓛 1 κs qs) ⊛ ‵ ((row N).own_val r (u ∷ [])))
            ⊛ some (λ (zs : Lasts Callee κs x). ‵ (lasts Callee κs x zs) ⊛ raw ((c' κs x).ensures (gives.ghosts κs d g) r (at_exit Callee κs x zs))))) ∷ []) ∵
            updating ! $ await ! tt $ pick ! (λ r. split ! $ split ! $ move ! (2 ∷ []) $ pick ! (λ zs. split ! $ move ! (3 ∷ []) $
            -- [the reply; the last values; the ensures; the token]
            peeks ! (row N) (Is (row N)) (shows 𝓛 (row N)) r (u ∷ []) (λ is. at_once ! $ check ! ((LL.lawful N L 𝓛).typed r (u ∷ []) is).0 $ updating ! $ at_once ! $
            show ! (λ (r' : N.D). sep 𝓤 (Back 𝓛 Caller.signature our.0 u r') (ensured 𝓛 Caller c κs (d, tt) g r')) r $ move ! (3 ∷ 0 ∷ []) $ join ! $ frame ! $
            show ! (λ (ws : Lasts Caller κs (d, tt)). sep 𝓤 (sem 𝓛 (lasts Caller κs (d, tt) ws)) ((c κs (d, tt)).ensures g r (at_exit Caller κs (d, tt) ws))) (left_of κs d zs) $
            use1 𝓛 (‵ (lasts Caller κs (d, tt) (left_of κs d zs))) (lasts_say κs d zs) $ move ! (1 ∷ []) $
            use1 𝓛 (raw ((c κs (d, tt)).ensures g r (at_exit Caller κs (d, tt) (left_of κs d zs)))) (gives.says κs d g r zs) $ move ! (1 ∷ 0 ∷ []) $ done !)))

        -- ---- the run, from the machine value that the struct has
        at_value : Is (Struct (shape κs)) x (mach ∷ []) → (C : Calls 𝓤 H) (Λ : Loops 𝓤 H) → FmC 𝓤 H 𝓛.laws C → (f : Name) → Triple 𝓤 (C f) its → (F : Fn) → function κs f ≡ F
            → ent 𝓤 (ours.pre our) (WpFn 𝓤 H C Λ F (mach ∷ []) (ours.post our))
        at_value is C Λ fm f known F code =
            subst (λ (F' : Fn). ent 𝓤 (ours.pre our) (WpFn 𝓤 H C Λ F' (mach ∷ []) (ours.post our))) code
            (runs_on 𝓛 C Λ fm κs ks ν (layout (shape_of N)) f x ((Struct-Lawful 𝓛 (shape κs) (rows_lawful κs 𝓛 ks)).typed x (mach ∷ []) is).0
            (ours.pre our) (its.post it) (ours.post our) (via 𝓤 (its.pre it) enters (known it)) ends)

      -- and from whatever machine value it is said to have, which can be no other
      hands_on_lem : (C : Calls 𝓤 H) (Λ : Loops 𝓤 H) → FmC 𝓤 H 𝓛.laws C → (f : Name) → Triple 𝓤 (C f) its → (F : Fn) → ((κs : Lfts 1) → function κs f ≡ F)
          → Triple 𝓤 (WpFn 𝓤 H C Λ F) ours
      hands_on_lem C Λ fm f known F code y =
          let κs : Lfts 1 = y.0.0 in
          let d : D = y.0.3.0 in
          let P : SProp 𝓤 = (c κs (d, tt)).requires y.1 in
          let Q : List Val × Unit {0} → SProp 𝓤 = λ vss. wand 𝓤 P (WpFn 𝓤 H C Λ F (vss.0 ++ []) (ours.post y)) in
          via 𝓤 (sep 𝓤 P (Q y.0.4))
          (via 𝓤 (sep 𝓤 (Q y.0.4) P)
          (mono_l 𝓤 P (said 𝓛 Caller.signature κs y.0.1 ((λ e. machine (shape κs) (spelled κs ks) (to κs e) ∷ []), tt)
          ((λ e vs p. Struct-Tells (shape κs) (spelled κs ks) (spelled_tell κs ks) (to κs e) vs p), tt) (d, tt) Q y.0.4
          (λ are. wand_i 𝓤 _ P _ (at_value κs y.0.1 d y.1 are.0 C Λ fm f known F (code κs)))))
          (comm∗ 𝓤 (Q y.0.4) P))
          (apply∗ 𝓤 P (WpFn 𝓤 H C Λ F (y.0.4.0 ++ []) (ours.post y)))

  -- ---- at the routines: γ is the environment of the function, k its own key and F its code, f the key by which it calls the function on the fields, which runs as r
  pub lent_call : {M : Type 1} {𝓤 : Ura M} (𝓛 : Logic 𝓤) (𝓜 : Model 𝓤 𝓛.H) (𝓡 : Running 𝓤 𝓛.H 𝓜) (c : Clauses 𝓤 Caller) (c' : Clauses 𝓤 Callee)
      → Gives 𝓛 c c' → (γ : Env) (k : Name) (F : Fn) → Closed 𝓤 𝓛.H (tables 𝓤 𝓛.H 𝓜 𝓡 γ).C (tables 𝓤 𝓛.H 𝓜 𝓡 γ).Λ k F
      → (f : Name) → ((κs : Lfts 1) → function κs f ≡ F) → (r : Routine) → γ f ≡ r → Meets 𝓛 Callee.signature (𝓡.run r) (closing 𝓛 Callee c')
      → Meets 𝓛 Caller.signature (𝓡.run (γ k)) (closing 𝓛 Caller c)
  unfolding tables_of
  lent_call {𝓤 = 𝓤} 𝓛 𝓜 𝓡 c c' gives γ k F closed f code r calls met =
      entered 𝓤 𝓛.H (ours 𝓛 c c') (tables 𝓤 𝓛.H 𝓜 𝓡 γ).C (tables 𝓤 𝓛.H 𝓜 𝓡 γ).Λ k F closed
      (hands_on_lem 𝓛 c c' gives (tables 𝓤 𝓛.H 𝓜 𝓡 γ).C (tables 𝓤 𝓛.H 𝓜 𝓡 γ).Λ (fm_of 𝓤 𝓛.H 𝓛.laws (tables_of 𝓤 𝓛.H 𝓜 (tables 𝓤 𝓛.H 𝓜 𝓡 γ)))
      f (cited 𝓤 𝓛.H (its 𝓛 c c') 𝓜 𝓡 γ f r calls met) F code)
