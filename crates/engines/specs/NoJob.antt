-- The job that the logic takes for an element past the end of a list of jobs. An engine has eight jobs, and no screen's
-- place is past them.
use Rattle.std.specs.Prelude.{false, [], Ok, None}
use Rattle.std.specs.Float.{nan}
use Rattle.materials.specs.declared.Density.TheVariants.{Bulk}
use Rattle.sections.specs.declared.Section.TheVariants.{Square}
use Rattle.planforms.specs.declared.Planform.TheVariants.{Trapezoid}
use Rattle.fins.specs.declared.FinSet.{FinSet}
use Rattle.figures.specs.declared.Figures.{Figures}
use Rattle.jobs.specs.declared.Job.{Job}

abbrev no_set : FinSet
no_set =
    record {
      count = 0;
      planform = Trapezoid nan nan nan nan;
      thickness_m = nan;
      cross_section = Square;
      tab = None;
      fillet = record { radius_m = nan; density = Bulk nan };
      cant_rad = nan;
      base_angle_rad = nan;
      body_radius_m = nan;
      density = Bulk nan;
    }

abbrev no_outcome : Figures
no_outcome =
    record {
      verdict = (Ok tt);
      body =
          record {
            mass_kg = nan;
            centre_m = record { x = nan; y = nan; z = nan };
            inertia_kg_m2 = record { 0 = [] };
          };
      intervals = 0;
      samples = 0;
    }

abbrev pub no_job : Job
no_job =
    record {
      set = no_set;
      points = record { numbers = []; count = 0 };
      limit = 0;
      next = 0;
      totals = record { value = []; intervals = 0; samples = 0 };
      ended = false;
      outcome = no_outcome;
    }
