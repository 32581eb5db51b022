mod FirstDue
