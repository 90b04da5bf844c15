-- The entries of a layout, as an iterator has them left.
use Rattle.std.specs.Prelude.{ℕ, List, take}
use Rattle.std.specs.Iterator.Adapters.{take_source, take_count, zip_first, zip_second}
use Rattle.std.specs.Slice.Iter.{iter_rest}
use Rattle.std.specs.declared.iter.Take.{Take}
use Rattle.std.specs.declared.iter.Zip.{Zip}
use Rattle.std.specs.declared.slice.Iter.{Iter}
use Rattle.flashrules.specs.Layout.{Class, paired}

abbrev pub entries_left : Take (Zip (Iter ℕ) (Iter ℕ)) → List Class
entries_left s = take (take_count s) (paired (iter_rest (zip_first (take_source s))) (iter_rest (zip_second (take_source s))))
