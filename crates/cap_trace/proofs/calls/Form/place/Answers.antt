use Rattle.std.proofs.Common.{◌≡◌, ◌+◌, ◌∙◌, ℕ, Some, refl, sym, ap}
use Rattle.std.specs.Prelude.{position}
use Rattle.std.specs.List.{slice_get}
use Rattle.std.specs.Option.{unwrap_or}
use Rattle.std.specs.Str.{bytes_eq}
use denote.Enum.Declared.{tag_of}
use Rattle.cap_trace.specs.declared.calls.Form.{Form}
use Rattle.cap_trace.specs.declared.calls.Form.TheVariants as forms
use Rattle.cap_trace.specs.Names.{all_forms, row_of}
use Rattle.cap_trace.proofs.calls.Form.place.Goals as goal
use Rattle.cap_trace.specs.declared.calls.SendCall.TheVariants as sends_calls
use Rattle.cap_trace.specs.contracts.calls.SendCall as sends_calls_type
use Rattle.cap_trace.specs.declared.calls.PathCall.TheVariants as on_path_calls
use Rattle.cap_trace.specs.contracts.calls.PathCall as on_path_calls_type
use Rattle.cap_trace.specs.declared.calls.PathsCall.TheVariants as on_paths_calls
use Rattle.cap_trace.specs.contracts.calls.PathsCall as on_paths_calls_type
use Rattle.cap_trace.specs.declared.calls.AtCall.TheVariants as at_dir_calls
use Rattle.cap_trace.specs.contracts.calls.AtCall as at_dir_calls_type
use Rattle.cap_trace.specs.declared.calls.AtFlagsCall.TheVariants as at_dir_with_flags_calls
use Rattle.cap_trace.specs.contracts.calls.AtFlagsCall as at_dir_with_flags_calls_type
use Rattle.cap_trace.specs.declared.calls.FlagsCall.TheVariants as on_flags_calls
use Rattle.cap_trace.specs.contracts.calls.FlagsCall as on_flags_calls_type
use Rattle.cap_trace.specs.declared.calls.BareCall.TheVariants as bare_calls
use Rattle.cap_trace.specs.contracts.calls.BareCall as bare_calls_type
use Rattle.cap_trace.specs.declared.calls.NeedsMarker.TheVariants as needs_markers
use Rattle.cap_trace.specs.contracts.calls.NeedsMarker as needs_markers_type

-- where the table has the form's name
abbrev begins : Form → ℕ
begins f = unwrap_or (position (λ g. bytes_eq (row_of g).name (row_of f).name) all_forms) 0

-- the form is as far after the first of its kind as its call after the first call
Stands : Form → Type 0
Stands (forms.Send c) =
    slice_get all_forms (tag_of sends_calls_type.the_type c + begins (forms.Send sends_calls.Sendto))
    ≡ Some (forms.Send c)
Stands (forms.OnPath c) =
    slice_get all_forms (tag_of on_path_calls_type.the_type c + begins (forms.OnPath on_path_calls.Execve))
    ≡ Some (forms.OnPath c)
Stands (forms.OnPaths c) =
    slice_get all_forms (tag_of on_paths_calls_type.the_type c + begins (forms.OnPaths on_paths_calls.Link))
    ≡ Some (forms.OnPaths c)
Stands (forms.At c) =
    slice_get all_forms (tag_of at_dir_calls_type.the_type c + begins (forms.At at_dir_calls.Mkdirat))
    ≡ Some (forms.At c)
Stands (forms.AtFlags c) =
    slice_get all_forms (tag_of at_dir_with_flags_calls_type.the_type c
    + begins (forms.AtFlags at_dir_with_flags_calls.Openat))
    ≡ Some (forms.AtFlags c)
Stands (forms.OnFlags c) =
    slice_get all_forms (tag_of on_flags_calls_type.the_type c + begins (forms.OnFlags on_flags_calls.Socket))
    ≡ Some (forms.OnFlags c)
Stands (forms.Bare c) =
    slice_get all_forms (tag_of bare_calls_type.the_type c + begins (forms.Bare bare_calls.Pipe))
    ≡ Some (forms.Bare c)
Stands (forms.Needs c) =
    slice_get all_forms (tag_of needs_markers_type.the_type c + begins (forms.Needs needs_markers.Uses))
    ≡ Some (forms.Needs c)
Stands f = Unit {0}

stands : (f : Form) → Stands f
unfolding all_forms Stands
stands (forms.Send sends_calls.Sendto) = refl
stands (forms.Send c) = refl
stands (forms.OnPath on_path_calls.Execve) = refl
stands (forms.OnPath c) = refl
stands (forms.OnPaths on_paths_calls.Link) = refl
stands (forms.OnPaths c) = refl
stands (forms.At at_dir_calls.Mkdirat) = refl
stands (forms.At c) = refl
stands (forms.AtFlags at_dir_with_flags_calls.Openat) = refl
stands (forms.AtFlags c) = refl
stands (forms.OnFlags on_flags_calls.Socket) = refl
stands (forms.OnFlags c) = refl
stands (forms.Bare bare_calls.Pipe) = refl
stands (forms.Bare c) = refl
stands (forms.Needs needs_markers.Uses) = refl
stands (forms.Needs c) = refl
stands f = tt

pub returns-in-Send : goal.returns-in-Send
unfolding all_forms Stands
returns-in-Send c = stands (forms.Send c.in-Send.call) ∙ ap Some (sym c.in-Send.is)

pub returns-in-OnPath : goal.returns-in-OnPath
unfolding all_forms Stands
returns-in-OnPath c = stands (forms.OnPath c.in-OnPath.call) ∙ ap Some (sym c.in-OnPath.is)

pub returns-in-OnPaths : goal.returns-in-OnPaths
unfolding all_forms Stands
returns-in-OnPaths c = stands (forms.OnPaths c.in-OnPaths.call) ∙ ap Some (sym c.in-OnPaths.is)

pub returns-in-At : goal.returns-in-At
unfolding all_forms Stands
returns-in-At c = stands (forms.At c.in-At.call) ∙ ap Some (sym c.in-At.is)

pub returns-in-AtFlags : goal.returns-in-AtFlags
unfolding all_forms Stands
returns-in-AtFlags c = stands (forms.AtFlags c.in-AtFlags.call) ∙ ap Some (sym c.in-AtFlags.is)

pub returns-in-OnFlags : goal.returns-in-OnFlags
unfolding all_forms Stands
returns-in-OnFlags c = stands (forms.OnFlags c.in-OnFlags.call) ∙ ap Some (sym c.in-OnFlags.is)

pub returns-in-Bare : goal.returns-in-Bare
unfolding all_forms Stands
returns-in-Bare c = stands (forms.Bare c.in-Bare.call) ∙ ap Some (sym c.in-Bare.is)

pub returns-in-Needs : goal.returns-in-Needs
unfolding all_forms Stands
returns-in-Needs c = stands (forms.Needs c.in-Needs.call) ∙ ap Some (sym c.in-Needs.is)
