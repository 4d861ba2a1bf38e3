-- A number that is refused in a section is one of its numbers.
use Rattle.std.specs.Prelude.{◌≡◌, ℕ, ◌+◌, ◌-◌, ◌*◌, ◌<◌, ◌≤◌, Bool, true, false, List, length, ℤ, Option, Some, None, IfSome, pos, int_lt, ◌||◌, nat_le, unsigned_abs}
use Rattle.std.proofs.Common.{arith, refl, sym, ap₂, subst, ap, ◌∙◌}
use Rattle.std.specs.Option.{option_or, option_map}
use Rattle.scan.specs.AxisChecks.{edge_or_zero, first_outside, first_not_rising, edges_check, listed_check}
use Rattle.scan.specs.Axes.{edge_of, widest}
use Rattle.scan.specs.DraftChecks.{first_beyond, distances_check, source_check, columns_check, clearance_check}
use Rattle.scan.specs.Refusals.{place as edge_number}
use Rattle.scan.specs.Verdicts.{refused_where}
use Rattle.scan.specs.declared.refusal.Refusal.{Refusal}
use Rattle.scan.specs.declared.refusal.Refusal.TheVariants.{OutOfRange, NotRising, SourceDistance, PanelDistance, SourceTooNear, ColumnBeyond}
use Rattle.planfile.specs.Sections.{place_of, section_at, end_of}
use Rattle.planfile.specs.Faults.{refused_at}
use Rattle.planfile.specs.declared.fault.Fault.TheVariants.{Refused}
use Rattle.planfile.specs.declared.placed.Placed.{Placed}
use Rattle.planfile.proofs.Searches.{first_below}
use Rattle.planfile.specs.FileChecks.{section_check}
use Rattle.planfile.proofs.SectionFacts.{section_count}
use Rattle.planfile.proofs.SectionChecks.{section_known}

-- the number of a section stands before its end
pub placed_within : (bytes : List ℕ) (p i : ℕ) → i < length (section_at bytes p) → place_of p i < end_of bytes p
unfolding end_of
placed_within bytes p i l = omega (arith, section_count bytes p)

-- a refusal names a number below n
abbrev Names : ℕ → Option Refusal → Type 0
Names n found = IfSome found (λ r. edge_number r < n)

either_names : (n : ℕ) (a b : Option Refusal) → Names n a → Names n b → Names n (option_or a b)
either_names n None b p q = q
either_names n (Some r) b p q = p

found_names : (n : ℕ) (refused : ℕ → Refusal) (found : Option ℕ) → ((k : ℕ) → found ≡ Some k → edge_number (refused k) < n) → Names n (option_map refused found)
found_names n refused None h = tt
found_names n refused (Some k) h = h k refl

where_names : (n : ℕ) (b : Bool) (r : Refusal) → edge_number r < n → Names n (refused_where b r)
where_names n true r l = l
where_names n false r l = tt

-- an edge that is refused is one of the edges
pub edge_named : (es : List ℤ) (r : Refusal) → edges_check es ≡ Some r → edge_number r < length es
edge_named es r e =
    subst (Names (length es)) e (either_names (length es) _ _
    (found_names (length es) (λ i. OutOfRange i (edge_or_zero es i)) (first_outside 4194304 es) (λ k f. first_below _ (length es) k f))
    (found_names (length es) (λ i. NotRising (i + 1) (edge_or_zero es i) (edge_or_zero es (i + 1))) (first_not_rising es) (λ k f. omega (arith, first_below _ (length es - 1) k f))))

-- a distance that is refused is D or F
pub distance_named : (source panel : ℤ) (r : Refusal) → distances_check source panel ≡ Some r → edge_number r < 2
distance_named source panel r e =
    let near = int_lt source (pos 1) || int_lt (pos 16777216) source in
    let far = int_lt panel source || int_lt (pos 33554432) panel in
    subst (Names 2) e
    (either_names 2 (refused_where near (SourceDistance source)) (refused_where far (PanelDistance panel source))
    (where_names 2 near (SourceDistance source) (omega arith)) (where_names 2 far (PanelDistance panel source) (omega arith)))

-- where the number of edges is one of an axis, their own check is left
listed_counted : (es : List ℤ) → 2 ≤ length es → length es ≤ 513 → listed_check es ≡ edges_check es
listed_counted es some few = grind arith

-- a refusal and its place as a fault
pub placed_is : (placed : Placed) (r : Refusal) (k : ℕ) → placed.refusal ≡ r → placed.place ≡ k → refused_at k r ≡ Refused placed
placed_is placed r k e f = sym (ap₂ (λ a b. refused_at b a) e f)

-- what is refused of distances and axes together names D, or an edge of the columns
pub column_named : (source panel : ℤ) (x y column : List ℤ) (r : Refusal) → 0 < length column → clearance_check source panel x y column ≡ Some r → edge_number r < length column
column_named source panel x y column r some e =
    let near = nat_le (unsigned_abs source) (2 * widest x y) in
    subst (Names (length column)) e
    (either_names (length column) (source_check source x y) (columns_check panel column)
    (where_names (length column) near (SourceTooNear source (pos (widest x y))) some)
    (found_names (length column) (λ i. ColumnBeyond i (edge_of column i) panel) (first_beyond (unsigned_abs panel) column) (λ k f. first_below _ (length column) k f)))

-- what is refused of the numbers of an axis's section is refused of its edges, since their number is one of an axis
pub edges_refused : (bytes : List ℕ) (p : ℕ) (numbers : List ℤ) (r : Refusal) → section_check bytes p 2 513 ≡ None → numbers ≡ section_at bytes p → listed_check numbers ≡ Some r → edges_check (section_at bytes p) ≡ Some r
edges_refused bytes p numbers r e same found =
    let long = section_count bytes p in
    let counted = section_known bytes p 2 513 e in
    sym (listed_counted (section_at bytes p) (omega arith) (omega arith)) ∙ ap listed_check (sym same) ∙ found
