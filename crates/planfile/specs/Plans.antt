-- The scan that the bytes of a plan hold, and the values of its voxels.
use Rattle.std.specs.Prelude.{ℕ, List, map, unsigned_abs}
use Rattle.scan.specs.Scans.{Scan}
use Rattle.planfile.specs.Pairs.{headings_in}
use Rattle.planfile.specs.Sections.{section_at, entry, start}
use Rattle.values.specs.Counts.{count_of}
use Rattle.values.specs.declared.count.Count.{Count}

-- The scan that bytes hold, section by section: D and F, the edges of x, y, z, the columns and the rows, the directions, and the steps, without a sign, which no step of an accepted plan has.
unfoldable pub scan_in : List ℕ → Scan
scan_in bytes =
    record {
      source = entry bytes (start bytes 0) 0;
      panel = entry bytes (start bytes 0) 1;
      x = section_at bytes (start bytes 1);
      y = section_at bytes (start bytes 2);
      z = section_at bytes (start bytes 3);
      column = section_at bytes (start bytes 4);
      row = section_at bytes (start bytes 5);
      directions = headings_in (section_at bytes (start bytes 6));
      steps = map unsigned_abs (section_at bytes (start bytes 7));
    }

-- The values of the section that begins at place p, as Counts.
unfoldable pub values_in : List ℕ → ℕ → List Count
values_in bytes p = map count_of (section_at bytes p)
