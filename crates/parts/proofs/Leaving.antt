-- What the readers of a part leave, answer by answer, and that there is room for it. Assumes nothing.
use Rattle.std.specs.Prelude.{Result, Ok, Err}
use Prim.Native.Nat.{ℕ, zero, suc, ◌+◌, ◌-◌, ◌*◌, ◌≤◌}
use native.Mathlib.Omega.{arith}
use mathlib.Core.Path.{◌≡◌, refl, sym, ap, ◌∙◌}
use mathlib.Core.Bool.{true, false≢true}
use mathlib.Core.List.{List, [], ◌∷◌, ◌++◌, append_assoc, append-nil, map-append}
use lib.ListN.{length, take, drop, length-drop, length-append}
use lib.Seq.{take_all}
use Rattle.cases.specs.declared.command.Row.{Row}
use Rattle.cases.specs.declared.command.ShapeRule.{ShapeRule}
use Rattle.cases.specs.declared.command.ShapeRule.TheVariants.{Not}
use Rattle.cases.specs.declared.counts.Counts.{Counts}
use Rattle.cases.specs.declared.heads.PartHead.{PartHead}
use Rattle.cases.specs.declared.heads.Opens.{Opens}
use Rattle.cases.specs.declared.heads.Opens.TheVariants.{Name as OpensName, Alone, One, Two, AtMost}
use Rattle.cases.specs.declared.refusals.Fault.{Fault}
use Rattle.cases.specs.declared.refusals.Fault.TheVariants.{TooDeep}
use Rattle.cases.specs.Format.{shape_rule_of}
use Rattle.cases.specs.Parts
use Rattle.cases.specs.Parts.{Part, Named, Plain, Around, Joining, PartRead, PartIs, head_at, head_opens, head_says, and_then, opened, part_at, filled, size, operand, rule, inside, names}
use Rattle.cases.specs.Reading.{named_at}
use Rattle.cases.proofs.Expansion.{length_fresh}
use Rattle.cases.proofs.Opening.{HeadShows, head_shows, ReadShows, part_shows}
use Rattle.parts.specs.declared.readers.Cursor.{Cursor}
use Rattle.parts.specs.declared.readers.Inner.{Inner}
use Rattle.parts.specs.declared.readers.Opened.{Opened}
use Rattle.parts.specs.declared.readers.Opened.TheVariants.{Name, Rule}
use Rattle.parts.specs.Reads.{with_references, cursor_behind, cursor_reserved}
use Rattle.parts.specs.Reads.{budget, InnerRoom, PartRoom, Wrote, NamedAs, is_rule, RuleRead, NameRead, OpenedIs, OpenedAs, InnerRead, InnerIs, InnerAs}
use Rattle.cases.specs.Rows.{put_row}
use Rattle.parts.specs.Tables.{rules_in, named_in}
use Rattle.parts.proofs.Opens.{with_references_says}
use Rattle.cases.proofs.PutRows.{length_put_row}
use Rattle.parts.proofs.Stores.{rules_filled, length_rules_in}

-- ---- What is left, one after another

module _ {n : ℕ} {cursor : Cursor} {fresh named : List ℕ} where
  wrote_none : (at : ℕ) → Wrote n [] [] cursor (record { place = cursor.place; at = at; fresh = cursor.fresh; noted = cursor.noted }) fresh named fresh named
  unfolding named_at
  wrote_none at = record {
    placed = refl;
    rules = sym (append-nil (rules_in fresh cursor.fresh));
    notes = sym (append-nil (named_in named cursor.noted));
    few_rules = omega arith;
    few_notes = omega arith;
  }

  -- more may be left, from any offset
  module _ {m : ℕ} {own : List ShapeRule} {shapes : List ℕ} {start cursor' : Cursor} {fresh' named' : List ℕ} {at : ℕ} where
    wrote_from : start ≡ record { place = cursor.place; at = at; fresh = cursor.fresh; noted = cursor.noted } → m ≤ n
        → Wrote m own shapes start cursor' fresh named fresh' named' → Wrote n own shapes cursor cursor' fresh named fresh' named'
    wrote_from e h w =
        let o = rw e at w in
        record { placed = o.placed; rules = o.rules; notes = o.notes; few_rules = omega (arith, o.few_rules); few_notes = omega (arith, o.few_notes) }

wrote_then : {m n : ℕ} {own own' : List ShapeRule} {shapes shapes' : List ℕ} {a b c : Cursor} {fresh named fresh₁ named₁ fresh₂ named₂ : List ℕ}
    → Wrote m own shapes a b fresh named fresh₁ named₁ → Wrote n own' shapes' b c fresh₁ named₁ fresh₂ named₂
    → Wrote (m + n) (own ++ own') (shapes ++ shapes') a c fresh named fresh₂ named₂
unfolding named_at
wrote_then {own = own} {own' = own'} {shapes = shapes} {shapes' = shapes'} {a = a} {fresh = fresh} {named = named} u v = record {
  placed = v.placed ∙ u.placed;
  rules = v.rules ∙ rw u.rules (append_assoc (rules_in fresh a.fresh) own own');
  notes = v.notes ∙ rw (u.notes, u.placed) (append_assoc (named_in named a.noted) (named_at a.place shapes) (named_at a.place shapes')
      ∙ ap (λ l. named_in named a.noted ++ l) (sym (map-append _ shapes shapes')));
  few_rules = omega (arith, u.few_rules, v.few_rules);
  few_notes = omega (arith, u.few_notes, v.few_notes);
}

-- a row taken first and filled last
wrote_filled : {n : ℕ} {own : List ShapeRule} {shapes : List ℕ} {a b : Cursor} {fresh named fresh' named' : List ℕ} {x : ShapeRule}
    (row : Row) → shape_rule_of row ≡ x → 4 * a.fresh + 4 ≤ length fresh' → Wrote n own shapes (cursor_reserved a) b fresh named fresh' named'
    → Wrote (suc n) (x ∷ own) shapes a b fresh named (put_row fresh' a.fresh row) named'
wrote_filled {own = own} {a = a} {b = b} {fresh = fresh} {fresh' = fresh'} row e fits w = record {
  placed = w.placed;
  rules = rw (← e) (rules_filled fresh fresh' a.fresh b.fresh own row fits w.rules);
  notes = w.notes;
  few_rules = omega (arith, w.few_rules);
  few_notes = omega (arith, w.few_notes);
}

wrote_count : {n : ℕ} {own : List ShapeRule} {shapes : List ℕ} {a b : Cursor} {fresh named fresh' named' : List ℕ}
    → Wrote n own shapes a b fresh named fresh' named' → b.fresh ≡ a.fresh + length own
wrote_count {own = own} {a = a} {b = b} {fresh = fresh} {fresh' = fresh'} w =
    omega (arith, ap length w.rules, length-append (rules_in fresh a.fresh) own, length_rules_in fresh a.fresh, length_rules_in fresh' b.fresh)

-- ---- A part from its head, with what was read of its inner parts

-- the cursor behind the head
abbrev from : Cursor → ℕ → Cursor
from cursor at = record { place = cursor.place; at = at; fresh = cursor.fresh; noted = cursor.noted }

module _ (n m at : ℕ) (cursor : Cursor) (fresh named : List ℕ) where
  around_is : (fresh' named' : List ℕ) (row : Row) (read : PartRead) (x : Inner) → m ≤ n
      → InnerRead m read x.reference (from cursor at) x.after fresh named fresh' named'
      → RuleRead n (and_then read (λ x next. PartIs (Around (shape_rule_of row) x) next)) (with_references row x.reference x.reference) cursor x.after
      fresh named fresh' named'
  unfolding and_then is_rule rule inside names
  around_is fresh' named' row read x h i = rw i.is (record {
    part = Around (shape_rule_of row) i.part;
    is = refl;
    ruled = refl;
    rule_is = with_references_says row x.reference x.reference ∙ rw i.reference;
    wrote = wrote_from refl h i.wrote;
  })

  -- an at most is a not of the at least around the inner part; its at least is the first fresh shape inside it
  most_is : (fresh' named' : List ℕ) (row : Row) (read : PartRead) (x : Inner) → suc m ≤ n → 4 * cursor.fresh + 4 ≤ length fresh'
      → InnerRead m read x.reference (cursor_reserved (from cursor at)) x.after fresh named fresh' named'
      → RuleRead n (and_then read (λ x next. PartIs (Around (Not (record { 0 = 0 })) (Around (shape_rule_of row) x)) next)) (0x24, 256 + cursor.fresh, 0, 0)
      cursor x.after fresh named (put_row fresh' cursor.fresh (with_references row x.reference x.reference)) named'
  unfolding and_then is_rule rule inside names operand filled shape_rule_of Parts.fresh
  most_is fresh' named' row read x h fits i =
      let q : 256 + (cursor.fresh + 1) ≡ suc (256 + cursor.fresh) = omega arith in
      let w = with_references row x.reference x.reference in
      rw i.is (record {
        part = Around (Not (record { 0 = 0 })) (Around (shape_rule_of row) i.part);
        is = refl;
        ruled = refl;
        rule_is = refl;
        wrote = wrote_from refl h (wrote_filled w (with_references_says row x.reference x.reference ∙ rw (i.reference, q)) fits (rw q at i.wrote));
      })

  -- the second inner part starts where the first ended, and its numbers where those of the first end
  joining_is : (fresh₁ named₁ fresh' named' : List ℕ) (row : Row) (first second : PartRead) (x y : Inner) → m + m ≤ n
      → InnerRead m first x.reference (from cursor at) x.after fresh named fresh₁ named₁
      → InnerRead m second y.reference x.after y.after fresh₁ named₁ fresh' named'
      → (onward : ℕ → PartRead) → onward x.after.at ≡ second
      → RuleRead n (and_then first (λ x next. and_then (onward next) (λ y end. PartIs (Joining (shape_rule_of row) x y) end)))
      (with_references row x.reference y.reference) cursor y.after fresh named fresh' named'
  unfolding and_then is_rule rule inside names
  joining_is fresh₁ named₁ fresh' named' row first second x y h i j onward e =
      let count : x.after.fresh ≡ cursor.fresh + size i.part = wrote_count i.wrote ∙ rw (length_fresh (256 + cursor.fresh) i.part) in
      let q : 256 + x.after.fresh ≡ 256 + cursor.fresh + size i.part = omega arith in
      rw (i.is, e, j.is) (record {
        part = Joining (shape_rule_of row) i.part j.part;
        is = refl;
        ruled = refl;
        rule_is = with_references_says row x.reference y.reference ∙ rw (i.reference, j.reference, q);
        wrote = wrote_from refl h (wrote_then i.wrote (rw q at j.wrote));
      })

-- ---- An inner part from what it opened

operand_rule : (n : ℕ) (x : Part) → is_rule x ≡ true → operand n x ≡ n
unfolding operand is_rule
operand_rule n (Named s) h = absurd (false≢true h)
operand_rule n (Plain r) h = refl
operand_rule n (Around r x) h = refl
operand_rule n (Joining r x y) h = refl

fresh_rule : (n : ℕ) (x : Part) → is_rule x ≡ true → Parts.fresh n x ≡ rule (suc n) x ∷ inside (suc n) x
unfolding Parts.fresh rule inside is_rule
fresh_rule n (Named s) h = absurd (false≢true h)
fresh_rule n (Plain r) h = refl
fresh_rule n (Around r x) h = refl
fresh_rule n (Joining r x y) h = refl

module _ (n : ℕ) (cursor : Cursor) (fresh named fresh' named' : List ℕ) (read : PartRead) where
  -- a named shape gives its row back
  inner_name : (s : ℕ) (after : Cursor) → NameRead n read s (cursor_reserved cursor) after fresh named fresh' named'
      → InnerRead (suc n) read s cursor (record { place = after.place; at = after.at; fresh = cursor.fresh; noted = after.noted }) fresh named fresh' named'
  unfolding operand names Parts.fresh
  inner_name s after o = record {
    part = Named s;
    is = o.is;
    reference = refl;
    wrote = rw o.untouched (record {
      placed = o.placed;
      rules = sym (append-nil (rules_in fresh cursor.fresh));
      notes = o.notes;
      few_rules = omega arith;
      few_notes = omega (arith, o.few_notes);
    });
  }

  inner_rule : (row : Row) (after : Cursor) → 4 * cursor.fresh + 4 ≤ length fresh' → RuleRead n read row (cursor_reserved cursor) after fresh named fresh' named'
      → InnerRead (suc n) read (256 + cursor.fresh) cursor after fresh named (put_row fresh' cursor.fresh row) named'
  inner_rule row after fits o =
      let f = 256 + cursor.fresh in
      let q : 256 + (cursor.fresh + 1) ≡ suc f = omega arith in
      record {
        part = o.part;
        is = o.is;
        reference = sym (operand_rule f o.part o.ruled);
        wrote = rw (fresh_rule f o.part o.ruled) (wrote_filled row (o.rule_is ∙ rw q) fits (rw q at o.wrote));
      }

-- ---- The reader of a part: room

module _ (nodes paths : ℕ) {depth : ℕ} {s : List ℕ} {cursor : Cursor} {fresh named : List ℕ} (p : PartRoom depth s cursor fresh named)
    (answer : Result PartHead Fault) (h : head_says answer ≡ head_at nodes paths (take (length s - cursor.at) (drop cursor.at s))) where
  head_is : head_says answer ≡ head_at nodes paths (drop cursor.at s)
  head_is = h ∙ rw (take_all (length s - cursor.at) (drop cursor.at s) (omega (arith, length-drop cursor.at s)))

  module _ {head : PartHead} (a : answer ≡ Ok head) where
    shown : HeadShows nodes paths (drop cursor.at s) (head_opens head.opens head.row head.width)
    shown = rw (← head_is, a) at (head_shows nodes paths (drop cursor.at s))

    width_fits : (o : Opens) → HeadShows nodes paths (drop cursor.at s) (head_opens o head.row head.width) → cursor.at + head.width ≤ length s
    unfolding HeadShows
    width_fits OpensName o = omega (arith, length-drop cursor.at s, o)
    width_fits Alone o = omega (arith, length-drop cursor.at s, o.1)
    width_fits One o = omega (arith, length-drop cursor.at s, o.1)
    width_fits Two o = omega (arith, length-drop cursor.at s, o.1)
    width_fits AtMost o = omega (arith, length-drop cursor.at s, o.1)

    pub start_fits : cursor.at + head.width ≤ length s
    start_fits = width_fits head.opens shown

    module _ {start : Cursor} (b : start ≡ cursor_behind cursor head.width) where
      pub room_inner : InnerRoom depth s start fresh named
      room_inner = rw b (record {
        room = record {
          within = start_fits;
          few = omega (arith, p.room);
          rows = omega (arith, p.room);
          notes = omega (arith, p.room);
        };
      })

      pub room_most : {next : Cursor} → next ≡ cursor_reserved start → InnerRoom depth s next fresh named
      room_most e = rw (e, b) (record {
        room = record {
          within = start_fits;
          few = omega (arith, p.room);
          rows = omega (arith, p.room);
          notes = omega (arith, p.room);
        };
      })

-- what else is asked on the way
module _ {depth : ℕ} {s : List ℕ} {cursor : Cursor} {fresh named : List ℕ} (p : PartRoom depth s cursor fresh named)
    (w : ℕ) {start : Cursor} (b : start ≡ cursor_behind cursor w) where
  pub room_close : {k : Counts} {next : Cursor} {inner : Result Inner Fault} {fresh₁ named₁ : List ℕ} → InnerAs depth k s next fresh named inner fresh₁ named₁
      → 4 * start.fresh + 4 ≤ length fresh₁
  room_close i = rw b (omega (arith, p.room, i.fresh_long))

  -- behind a first inner part there is room for a second
  pub room_second : {k : Counts} {first : Result Inner Fault} {fresh₁ named₁ : List ℕ} → InnerAs depth k s start fresh named first fresh₁ named₁
      → {x : Inner} → first ≡ Ok x → InnerRoom depth s x.after fresh₁ named₁
  unfolding InnerIs ReadShows
  room_second {k} i {x} q =
      let o = rw q at i.is in
      let shows = rw o.is at (part_shows k.nodes k.paths s depth start.at) in
      let f = ap (λ c. c.fresh) b in
      let n = ap (λ c. c.noted) b in
      record {
        room = record {
          within = shows.within;
          few = omega (arith, p.room, o.wrote.few_rules);
          rows = omega (arith, p.room, o.wrote.few_rules, i.fresh_long);
          notes = omega (arith, p.room, o.wrote.few_notes, i.named_long);
        };
      }

-- ---- The reader of a part: its answers

module _ {depth : ℕ} (k : Counts) {s : List ℕ} {cursor : Cursor} {fresh named : List ℕ} where
  -- an inner part that is refused refuses its part, and what it wrote stays
  stopped : {next : Cursor} {inner : Result Inner Fault} {fresh' named' : List ℕ} → InnerAs depth k s next fresh named inner fresh' named'
      → {fault : Fault} → inner ≡ Err fault → (f : Part → ℕ → PartRead)
      → part_at (suc depth) k.nodes k.paths s cursor.at ≡ and_then (part_at depth k.nodes k.paths s next.at) f
      → {r : Result Opened Fault} → r ≡ Err fault → OpenedAs depth k s cursor fresh named r fresh' named'
  unfolding OpenedIs InnerIs and_then
  stopped i q f e z =
      let o = rw q at i.is in
      rw z (record { fresh_long = i.fresh_long; named_long = i.named_long; is = e ∙ rw o })

  module _ (p : PartRoom depth s cursor fresh named) (answer : Result PartHead Fault)
      (h : head_says answer ≡ head_at k.nodes k.paths (take (length s - cursor.at) (drop cursor.at s))) where
    part_is : part_at (suc depth) k.nodes k.paths s cursor.at ≡ opened (part_at depth k.nodes k.paths s) cursor.at (head_says answer)
    unfolding part_at
    part_is = rw (head_is k.nodes k.paths p answer h)

    pub opened_refused : {fault : Fault} → answer ≡ Err fault → {r : Result Opened Fault} → r ≡ Err fault → OpenedAs depth k s cursor fresh named r fresh named
    unfolding OpenedIs opened
    opened_refused e z = rw z (record { fresh_long = refl; named_long = refl; is = part_is ∙ rw e })

    module _ {head : PartHead} (a : answer ≡ Ok head) {start : Cursor} (b : start ≡ cursor_behind cursor head.width) where
      opens_as : {o : Opens} → head.opens ≡ o
          → part_at (suc depth) k.nodes k.paths s cursor.at ≡ opened (part_at depth k.nodes k.paths s) cursor.at (head_opens o head.row head.width)
      opens_as e = part_is ∙ rw (a, e)

      pub opened_name : head.opens ≡ OpensName → {r : Opened} {named' : List ℕ} → NamedAs head.row.1 start named r named'
          → OpenedAs depth k s cursor fresh named (Ok r) fresh named'
      unfolding OpenedIs opened
      opened_name e n =
          let noted = rw b at n.noted in
          rw (n.is, b) (record {
            fresh_long = refl;
            named_long = noted.long;
            is = record { is = opens_as e; placed = refl; still = refl; untouched = refl; notes = noted.noted; few_notes = omega arith };
          })

      pub opened_alone : head.opens ≡ Alone → OpenedAs depth k s cursor fresh named (Ok (Rule head.row start)) fresh named
      unfolding OpenedIs HeadShows opened is_rule rule inside names
      opened_alone e =
          let o = rw e at (shown k.nodes k.paths p answer h a) in
          rw b (record {
            fresh_long = refl;
            named_long = refl;
            is = record {
              part = Plain (shape_rule_of head.row);
              is = opens_as e;
              ruled = refl;
              rule_is = refl;
              wrote = rw o.2 (wrote_none (cursor.at + head.width));
            };
          })

      -- one inner part
      module _ (e : head.opens ≡ One) {inner : Result Inner Fault} {fresh' named' : List ℕ} (i : InnerAs depth k s start fresh named inner fresh' named') where
        pub one_refused : {fault : Fault} → inner ≡ Err fault → {r : Result Opened Fault} → r ≡ Err fault → OpenedAs depth k s cursor fresh named r fresh' named'
        unfolding opened
        one_refused q z = stopped (rw b at i) q _ (opens_as e) z

        pub opened_one : {x : Inner} → inner ≡ Ok x → {row : Row} → row ≡ with_references head.row x.reference x.reference
            → OpenedAs depth k s cursor fresh named (Ok (Rule row x.after)) fresh' named'
        unfolding OpenedIs InnerIs opened
        opened_one {x} q w =
            let o = rw (b, q) at i in
            rw w (record {
              fresh_long = i.fresh_long;
              named_long = i.named_long;
              is = rw (opens_as e) (around_is (1 + 2 * budget depth) (budget depth) _ cursor fresh named fresh' named' head.row _ x (omega arith) o.is);
            })

      -- two inner parts
      module _ (e : head.opens ≡ Two) {first : Result Inner Fault} {fresh₁ named₁ : List ℕ} (i : InnerAs depth k s start fresh named first fresh₁ named₁) where
        pub first_refused : {fault : Fault} → first ≡ Err fault → {r : Result Opened Fault} → r ≡ Err fault → OpenedAs depth k s cursor fresh named r fresh₁ named₁
        unfolding opened
        first_refused q z = stopped (rw b at i) q _ (opens_as e) z

        module _ {x : Inner} (q : first ≡ Ok x) {second : Result Inner Fault} {fresh₂ named₂ : List ℕ}
            (j : InnerAs depth k s x.after fresh₁ named₁ second fresh₂ named₂) where
          pub second_refused : {fault : Fault} → second ≡ Err fault → {r : Result Opened Fault} → r ≡ Err fault
              → OpenedAs depth k s cursor fresh named r fresh₂ named₂
          unfolding OpenedIs InnerIs opened and_then
          second_refused d z =
              let o = rw (b, q) at i in
              let t = rw d at j.is in
              rw z (record {
                fresh_long = j.fresh_long ∙ i.fresh_long;
                named_long = j.named_long ∙ i.named_long;
                is = rw (opens_as e, o.is.is, t);
              })

          pub opened_two : {y : Inner} → second ≡ Ok y → {row : Row} → row ≡ with_references head.row x.reference y.reference
              → OpenedAs depth k s cursor fresh named (Ok (Rule row y.after)) fresh₂ named₂
          unfolding OpenedIs InnerIs opened
          opened_two {y} d w =
              let o = rw (b, q) at i in
              let t = rw d at j.is in
              rw w (record {
                fresh_long = j.fresh_long ∙ i.fresh_long;
                named_long = j.named_long ∙ i.named_long;
                is =
                    rw (opens_as e)
                    (joining_is (1 + 2 * budget depth) (budget depth) _ cursor fresh named fresh₁ named₁ fresh₂ named₂ head.row _ _ x y (omega arith)
                    o.is t (part_at depth k.nodes k.paths s) refl);
              })

      -- an at most
      module _ (e : head.opens ≡ AtMost) {next : Cursor} (n : next ≡ cursor_reserved start) {inner : Result Inner Fault} {fresh₁ named₁ : List ℕ}
          (i : InnerAs depth k s next fresh named inner fresh₁ named₁) where
        pub most_refused : {fault : Fault} → inner ≡ Err fault → {r : Result Opened Fault} → r ≡ Err fault → OpenedAs depth k s cursor fresh named r fresh₁ named₁
        unfolding opened
        most_refused q z = stopped (rw (n, b) at i) q _ (opens_as e) z

        pub opened_most : {x : Inner} → inner ≡ Ok x → {row : Row} → row ≡ with_references head.row x.reference x.reference
            → {f : ℕ} → f ≡ 256 + start.fresh → {fresh₂ : List ℕ} → fresh₂ ≡ put_row fresh₁ start.fresh row
            → OpenedAs depth k s cursor fresh named (Ok (Rule (0x24, f, 0, 0) x.after)) fresh₂ named₁
        unfolding OpenedIs InnerIs opened
        opened_most {x} q w f t =
            let o = rw (n, b, q) at i in
            rw (t, f, w, b) (record {
              fresh_long = length_put_row fresh₁ cursor.fresh (with_references head.row x.reference x.reference) ∙ i.fresh_long;
              named_long = i.named_long;
              is =
                  rw (opens_as e)
                  (most_is (1 + 2 * budget depth) (budget depth) _ cursor fresh named fresh₁ named₁ head.row _ x (omega arith)
                  (rw b at (room_close p head.width b i)) o.is);
            })

-- ---- The reader of an inner part

budget_more : (depth : ℕ) → (depth ≡ 0 → ⊥) → budget depth ≡ 2 + 2 * budget (depth - 1)
unfolding budget
budget_more zero d = absurd (d refl)
budget_more (suc depth) d = let e : suc depth - 1 ≡ depth = omega arith in rw e

-- no level may open
pub inner_deep : {depth : ℕ} {k : Counts} {s : List ℕ} {cursor : Cursor} {fresh named : List ℕ} → depth ≡ 0
    → InnerAs depth k s cursor fresh named (Err TooDeep) fresh named
unfolding InnerIs part_at
inner_deep e = record { fresh_long = refl; named_long = refl; is = rw e }

module _ {depth : ℕ} {s : List ℕ} {cursor : Cursor} {fresh named : List ℕ} (p : InnerRoom depth s cursor fresh named) (d : depth ≡ 0 → ⊥) where
  more : budget depth ≡ 2 + 2 * budget (depth - 1)
  more = budget_more depth d

  pub room_opened : {next : Cursor} → next ≡ cursor_reserved cursor → PartRoom (depth - 1) s next fresh named
  room_opened e = rw e (record {
    room = record {
      within = omega (arith, p.room);
      few = omega (arith, p.room, more);
      rows = omega (arith, p.room, more);
      notes = omega (arith, p.room, more);
    };
  })

  module _ {k : Counts} {next : Cursor} (e : next ≡ cursor_reserved cursor) {answer : Result Opened Fault} {fresh₁ named₁ : List ℕ}
      (o : OpenedAs (depth - 1) k s next fresh named answer fresh₁ named₁) where
    pub room_filled : 4 * cursor.fresh + 4 ≤ length fresh₁
    room_filled = omega (arith, p.room, more, o.fresh_long)

    deeper : suc (depth - 1) ≡ depth
    deeper = omega arith

    as_much : suc (1 + 2 * budget (depth - 1)) ≡ budget depth
    as_much = omega (arith, more)

    pub inner_refused : {fault : Fault} → answer ≡ Err fault → {r : Result Inner Fault} → r ≡ Err fault → InnerAs depth k s cursor fresh named r fresh₁ named₁
    unfolding OpenedIs InnerIs
    inner_refused q z =
        let i = rw (e, q) at o in
        rw z (record { fresh_long = o.fresh_long; named_long = o.named_long; is = rw deeper at i.is })

    pub inner_named : {t : ℕ} {after : Cursor} → answer ≡ Ok (Name t after)
        → InnerAs depth k s cursor fresh named
        (Ok (record { reference = t; after = record { place = after.place; at = after.at; fresh = cursor.fresh; noted = after.noted } })) fresh₁ named₁
    unfolding OpenedIs InnerIs
    inner_named {t} {after} q =
        let i = rw (e, q) at o in
        record {
          fresh_long = o.fresh_long;
          named_long = o.named_long;
          is = rw (as_much, deeper) at (inner_name (1 + 2 * budget (depth - 1)) cursor fresh named fresh₁ named₁ _ t after i.is);
        }

    pub inner_ruled : {row : Row} {after : Cursor} → answer ≡ Ok (Rule row after) → {f : ℕ} → f ≡ 256 + cursor.fresh
        → {fresh₂ : List ℕ} → fresh₂ ≡ put_row fresh₁ cursor.fresh row
        → InnerAs depth k s cursor fresh named (Ok (record { reference = f; after = after })) fresh₂ named₁
    unfolding OpenedIs InnerIs
    inner_ruled {row} {after} q f t =
        let i = rw (e, q) at o in
        rw (f, t) (record {
          fresh_long = length_put_row fresh₁ cursor.fresh row ∙ o.fresh_long;
          named_long = o.named_long;
          is = rw (as_much, deeper) at (inner_rule (1 + 2 * budget (depth - 1)) cursor fresh named fresh₁ named₁ _ row after room_filled i.is);
        })
